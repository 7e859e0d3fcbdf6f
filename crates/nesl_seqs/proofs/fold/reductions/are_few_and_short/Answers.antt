use Rattle.std.proofs.Common.{◌≡◌, ◌∙◌, ◌<◌, ◌^◌, ◌+◌, ◌%◌, ◌∷◌, [], pos, true, ap, take, get_or, arith, of_z, w64, FitsSigned, rules, subst, refl}
use Rattle.std.specs.List.{list_all}
use Rattle.std.proofs.lemmas.Nat.{le_or_l, le_or_r}
use Rattle.std.proofs.lemmas.List.{take_more}
use Rattle.std.proofs.lemmas.List.Folds.{list_all-append}
use Rattle.nesl_seqs_base.proofs.Equality.{both_true}
use Rattle.nesl_seqs.specs.Leaves.{is_short}
use Rattle.nesl_seqs.proofs.Sums.{short_bits}
use Rattle.nesl_seqs.proofs.fold.reductions.are_few_and_short.Goals as goal

pub loop-number-preserved : goal.loop-number-preserved
loop-number-preserved c = λ small.
    let zs = c.args.ints.now in
    let k = c.loop-number.number-index in
    let n = get_or zs k (pos 0) in
    let before = c.loop-number.bits in
    let bits = (c.cast_unsigned.result + 2147483648) % 18446744073709551616 in
    let word : FitsSigned w64 n = search rules in
    let earlier : list_all is_short (take k zs) ≡ true = c.loop-number.invariant (omega (arith, le_or_l before bits, small)) in
    let same : c.cast_unsigned.result ≡ of_z w64 n = search rules in
    let below : bits < 2 ^ 32 = omega (arith, le_or_r before bits, small) in
    let here : is_short n ≡ true = short_bits n word (subst (λ b. (b + 2147483648) % 18446744073709551616 < 2 ^ 32) same below) in
    ap (list_all is_short) (take_more zs k (pos 0) c.loop-number-test.true) ∙ list_all-append is_short (take k zs) (n ∷ []) ∙ both_true (list_all is_short (take k zs)) (list_all is_short (n ∷ [])) earlier (both_true (is_short n) true here refl)
