use Rattle.std.proofs.Common.{◌≡◌, ◌∙◌, ◌+◌, Some, Ok, Err, [], map, drop, sym, ap, refl, subst, arith}
use Rattle.nesl_scalars.specs.declared.trap.Trap.TheVariants.{Count, Range}
use Rattle.nesl_seqs_base.specs.Levels.{are_lengths, Checks}
use Rattle.std.proofs.lemmas.Int.{ints}
use Rattle.nesl_values.specs.Parts.{as_int}
use Rattle.nesl_seqs_base.specs.Reductions.{all_of}
use Rattle.nesl_seqs_build.proofs.Cutting.{next_count, no_count, refused_below, refused_above, taken_off, none_counted, lengths_end}
use Rattle.nesl_seqs_build.proofs.levels.check.Goals as goal
use Rattle.nesl_seqs_build.proofs.levels.check.Goals.{then-count-lt0-via-then-count-lt0, then-count-lt0-via-else-count-lt0+then-count-left}

pub returns-then-count-lt0 : goal.returns-then-count-lt0
returns-then-count-lt0 g c =
    let is = c.args.counts.now in
    let k = c.loop-count.count-index in
    let z = c.in-Some.count in
    let others = all_of as_int (map g.T.Item.tree (drop (k + 1) is)) in
    let verdict = sym (next_count g.T.Item.tree is k c.count-item.result z c.loop-count.left c.loop-count-test.true c.count-item.is c.in-Some.ensures) ∙ c.loop-count.invariant in
    elim c.then-count-lt0.branch [
      | then-count-lt0-via-then-count-lt0 w ↦ refused_below z c.loop-count.left others _ (omega (arith, ints, w.if-count-lt0.true)) verdict
      | then-count-lt0-via-else-count-lt0+then-count-left w ↦ refused_above z c.loop-count.left others _ (omega (arith, ints, w.if-count-lt0.false, w.if-count-left.true)) verdict
    ]

pub returns-in_default : goal.returns-in_default
returns-in_default g c =
    let is = c.args.counts.now in
    let k = c.loop-count.count-index in
    subst (λ v. Checks v (Err Range)) (sym (no_count g.T.Item.tree is k c.count-item.result c.loop-count.left c.loop-count-test.true c.count-item.is c.in_default.ensures) ∙ c.loop-count.invariant) tt

pub loop-count-preserved : goal.loop-count-preserved
loop-count-preserved g c =
    let is = c.args.counts.now in
    let k = c.loop-count.count-index in
    let z = c.in-Some.count in
    let others = all_of as_int (map g.T.Item.tree (drop (k + 1) is)) in
    taken_off z c.loop-count.left _ others (omega (arith, ints, c.if-count-lt0.false)) (omega (arith, ints, c.if-count-lt0.false, c.if-count-left.false)) (omega (arith, ints, c.if-count-lt0.false, c.if-count-left.false)) ∙ sym (next_count g.T.Item.tree is k c.count-item.result z c.loop-count.left c.loop-count-test.true c.count-item.is c.in-Some.ensures) ∙ c.loop-count.invariant

pub returns-then-left-gt0 : goal.returns-then-left-gt0
returns-then-left-gt0 g c =
    let n = c.loop-count.left in
    let whole = sym (none_counted g.T.Item.tree c.args.counts.now c.loop-count.count-index n c.loop-count-test.false) ∙ c.loop-count.invariant in
    subst (λ v. Checks v (Err Count)) (ap Some (sym (lengths_end n c.if-left-gt0.true)) ∙ whole) refl

pub returns : goal.returns
returns g c =
    let n = c.loop-count.left in
    let none : 0 ≡ n = omega (arith, c.if-left-gt0.false) in
    let whole = sym (none_counted g.T.Item.tree c.args.counts.now c.loop-count.count-index n c.loop-count-test.false) ∙ c.loop-count.invariant in
    subst (λ v. Checks v (Ok tt)) (ap (λ m. Some (are_lengths m [])) none ∙ whole) tt
