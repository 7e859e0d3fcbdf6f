use Rattle.std.proofs.Common.{◌≡◌, ◌∙◌, ◌+◌, ◌+ℤ◌, pos, ap, sym, take, get_or, w64, FitsSigned, rules}
use Rattle.std.specs.Int.{int_wrap}
use Rattle.std.proofs.lemmas.Int.{wrapping_add_onto}
use Rattle.std.proofs.lemmas.List.{take_all, take_more}
use Rattle.nesl_seqs.specs.Elements.{wrapped_total}
use Rattle.nesl_seqs.proofs.Before.{wrapped_more}
use Rattle.nesl_seqs.proofs.fold.reductions.wrapped_sum.Goals as goal

pub loop-number-preserved : goal.loop-number-preserved
loop-number-preserved c =
    let zs = c.args.ints.now in
    let k = c.loop-number.number-index in
    let n = get_or zs k (pos 0) in
    let word : FitsSigned w64 n = search rules in
    let more : wrapped_total (take (k + 1) zs) ≡ int_wrap w64 (wrapped_total (take k zs) +ℤ n) = ap wrapped_total (take_more zs k (pos 0) c.loop-number-test.true) ∙ wrapped_more (take k zs) n in
    wrapping_add_onto w64 c.loop-number.total-bits n c.loop-number.auto.total.fits word ∙ ap (λ z. int_wrap w64 (z +ℤ n)) c.loop-number.invariant ∙ sym more

pub returns : goal.returns
returns c = c.loop-number.invariant ∙ ap wrapped_total (take_all c.loop-number.number-index c.args.ints.now c.loop-number-test.false)
