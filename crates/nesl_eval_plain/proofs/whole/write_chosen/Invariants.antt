use Rattle.std.proofs.Common.{◌≡◌, ◌-◌, ◌≤◌, drop, take}
use Rattle.nesl_eval_nodes.specs.Sides.{places_of}
use Rattle.nesl_eval_plain.specs.Comes.{chosen}
use Rattle.nesl_eval_plain.proofs.whole.write_chosen.Given as goal

abbrev pub invariant-loop-turn : goal.invariant-loop-turn
invariant-loop-turn l = record {
  within : l.count ≤ l.turn - l.from;
  so : take l.count l.out ≡ chosen (take (l.turn - l.from) (drop l.from (places_of l.places))) (take (l.turn - l.from) l.flags);
}
