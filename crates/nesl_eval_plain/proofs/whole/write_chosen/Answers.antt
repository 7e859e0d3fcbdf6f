use Rattle.std.proofs.Common.{◌+◌, [], take, ap, arith}
use Rattle.nesl_eval_nodes.specs.Sides.{places_of}
use Rattle.nesl_eval_plain.proofs.Turns.{all_turns, next_written}
use Rattle.nesl_eval_plain.proofs.whole.write_chosen.Goals as goal

pub loop-turn-preserved : goal.loop-turn-preserved
loop-turn-preserved c =
    let a = c.args in
    let k = c.loop-turn in
    record {
      within = omega (arith, c.one_if-count.ensures.small, k.invariant.within);
      so = next_written (places_of a.places) a.flags.now a.from k.turn a.to c.at.result k.out k.count (k.count + c.one_if-count.result) k.auto.turn c.loop-turn-test.true c.requires.turns.1 c.requires.len (omega (arith, k.invariant.within)) c.at.ensures (ap (λ n. k.count + n) c.one_if-count.ensures.is) k.invariant.so;
    }

pub returns-clause-within : goal.returns-clause-within
returns-clause-within c = omega (arith, c.loop-turn.invariant.within)

pub returns-clause-chosen : goal.returns-clause-chosen
returns-clause-chosen c =
    let a = c.args in
    let k = c.loop-turn in
    all_turns (places_of a.places) a.flags.now a.from k.turn a.to (take k.count k.out) [] c.requires.turns.0 c.loop-turn-test.false (omega arith) c.requires.len k.invariant.so
