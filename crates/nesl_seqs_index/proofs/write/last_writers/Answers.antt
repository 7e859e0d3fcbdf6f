use Rattle.std.proofs.Common.{◌≡◌, ◌≢◌, ◌∙◌, ◌+◌, ◌*◌, ◌/◌, ◌%◌, ap, map, reverse, rules}
use Rattle.std.proofs.lemmas.List.{length-set, take_all}
use Rattle.nesl_seqs_base.specs.Places.{arrival}
use Rattle.nesl_seqs_base.specs.Write.{writes_of}
use Rattle.nesl_values.specs.View.{tree_of}
use Rattle.nesl_seqs_index.proofs.Writing.{last_inside, last_outside, last_same}
use Rattle.nesl_seqs_index.proofs.write.last_writers.Goals as goal
use Rattle.nesl_seqs_index.proofs.write.last_writers.Goals.{in-Some+then-place-window, in-Some+else-place-window, in_default}

pub loop-number-preserved : goal.loop-number-preserved
loop-number-preserved g c =
    let ps = c.args.pairs.now in
    let n = c.args.len in
    let j = c.loop-number.number in
    let p = c.index-pairs-number.result in
    let last = c.loop-number.last in
    elim c.match-written_place.branch [
      | in-Some+then-place-window w ↦
          let inside : w.in-Some.place / 4096 ≡ c.args.window = search rules in
          rw w.last-is (length-set last (w.in-Some.place % 4096) (j + 1) ∙ c.loop-number.invariant.0, last_inside tree_of n ps j p w.in-Some.place c.args.window last c.loop-number-test.true c.index-pairs-number.is w.in-Some.ensures c.loop-number.invariant.0 inside c.loop-number.invariant.1)
      | in-Some+else-place-window w ↦
          let outside : w.in-Some.place / 4096 ≢ c.args.window = search rules in
          rw w.last-is (c.loop-number.invariant.0, last_outside tree_of n ps j p w.in-Some.place c.args.window last c.loop-number-test.true c.index-pairs-number.is w.in-Some.ensures outside c.loop-number.invariant.1)
      | in_default w ↦
          rw w.last-is (c.loop-number.invariant.0, last_same tree_of n ps j p c.args.window last c.loop-number-test.true c.index-pairs-number.is w.in_default.ensures c.loop-number.invariant.1)
    ]

pub returns : goal.returns
returns g c q h =
    c.loop-number.invariant.1 q h ∙ ap (λ ps. arrival (reverse (writes_of c.args.len (map tree_of ps))) (c.args.window * 4096 + q)) (take_all c.loop-number.number c.args.pairs.now c.loop-number-test.false)
