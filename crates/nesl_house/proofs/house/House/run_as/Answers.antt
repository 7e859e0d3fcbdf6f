use Rattle.std.proofs.Common.{subst, arith, List, ap, length, ◌∷◌, [], length-append}
use Rattle.nesl_house.specs.Runs.{Account, Runs}
use Rattle.nesl_house.proofs.Alones.{runs_none}
use Rattle.nesl_house.proofs.Places.{run_more}
use Rattle.nesl_house.proofs.house.House.run_as.Goals as goal

pub loop-said-init : goal.loop-said-init
loop-said-init g c = record {
  answered = ap length c.in_ok-answers.ensures.items;
  room = omega (arith, c.in_ok-answers.ensures.exact);
  runs = let P : List Account → Type 0 = λ x. Runs x [] x in subst P c.self.view_is (runs_none c.self.inside.users.items c.self.invariant);
}

pub loop-said-preserved : goal.loop-said-preserved
loop-said-preserved g c = record {
  answered = omega (arith, c.loop-said.invariant.answered, ap length c.push_reserved.ensures.items, length-append c.loop-said.answers.items (c.say_as-answer.result ∷ []));
  room = omega (arith, c.loop-said.invariant.room, c.push_reserved.ensures.capacity);
  runs =
      run_more c.scripts_follow.ensures c.args.self.now c.loop-said.self c.say_as-answer.new.self c.args.script.now c.loop-said.said-index c.said-item.result c.loop-said.answers.items c.push_reserved.new.self.items c.say_as-answer.result c.as_slice.result.now
      c.as_slice-in-loop-said.result.now c.loop-said.invariant.runs c.say_as-answer.ensures c.loop-said-test.true c.loop-said.invariant.answered c.said-item.is c.as_slice.ensures.value c.as_slice-in-loop-said.ensures.value c.push_reserved.ensures.items;
}
