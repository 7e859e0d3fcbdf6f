use Rattle.std.proofs.Common.{◌≡◌, ◌∙◌, ◌<◌, ◌+◌, ◌+ℤ◌, pos, ap, sym, length, take, get_or, arith, to_z, w64, FitsSigned, rules}
use Rattle.std.specs.Int.{int_wrap}
use Rattle.std.proofs.lemmas.Int.{wrapping_add_onto}
use Rattle.std.proofs.lemmas.List.{take_all, take_more, take_more_set, length-set}
use Rattle.nesl_seqs.specs.Elements.{wrapped_total}
use Rattle.nesl_seqs.proofs.Before.{first_told, pushed_more, wrapped_more}
use Rattle.nesl_seqs.proofs.fold.scans.sums_of_ints.Goals as goal

pub loop-place-preserved : goal.loop-place-preserved
loop-place-preserved g c =
    let zs = c.args.ints.now in
    let sums = c.loop-place.sums.items in
    let k = c.loop-place.place in
    let t = to_z w64 c.loop-place.total-bits in
    let n = get_or zs k (pos 0) in
    let at : k < length zs = c.loop-place-test.true in
    let inv = c.loop-place.invariant in
    let word : FitsSigned w64 n = search rules in
    let more : wrapped_total (take (k + 1) zs) ≡ int_wrap w64 (wrapped_total (take k zs) +ℤ n) = ap wrapped_total (take_more zs k (pos 0) at) ∙ wrapped_more (take k zs) n in (
      length-set sums k t ∙ inv.0,
      wrapping_add_onto w64 c.loop-place.total-bits n c.loop-place.auto.total.fits word ∙ ap (λ z. int_wrap w64 (z +ℤ n)) inv.1 ∙ sym more,
      pushed_more wrapped_total zs k (take k sums) _ t (take_more_set sums k t (omega (arith, at, inv.0))) inv.1 inv.2,
    )

pub returns : goal.returns
returns g c =
    let zs = c.args.ints.now in
    let end : c.loop-place.place ≡ length zs = omega (arith, c.loop-place-test.false, c.loop-place.auto.place-end) in
    sym (take_all c.loop-place.place c.loop-place.sums.items (omega (arith, end, c.loop-place.invariant.0))) ∙ c.loop-place.invariant.2 ∙ ap (first_told wrapped_total zs) end
