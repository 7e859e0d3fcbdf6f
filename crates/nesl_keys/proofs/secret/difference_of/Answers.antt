use Rattle.std.proofs.Common.{◌≡◌, ◌≤◌, ◌<◌, ℕ, ◌+◌, length, get_or, ap, arith, below_more}
use Rattle.std.proofs.lemmas.Grind.{same_number_lists}
use Rattle.nesl_keys.proofs.Bytes.{both_from_or, none_differs, same_from_xor}
use Rattle.nesl_keys.proofs.secret.difference_of.Goals as goal

pub loop-place-preserved : goal.loop-place-preserved
loop-place-preserved c =
    let i = c.loop-place.place in
    let d = c.loop-place.difference in
    let a = get_or c.args.one.now i 0 in
    let b = get_or c.args.other.now i 0 in
    let now : i < i + 1 = omega arith in
    record {
      same = λ z.
          let parts = both_from_or d _ z in
          below_more _ _ (c.loop-place.invariant.same parts.0) (same_from_xor a b parts.1);
      none = λ h.
          let before : (k : ℕ) → k < i → get_or c.args.one.now k 0 ≡ get_or c.args.other.now k 0 =
          λ k lt. h k (omega (arith, lt)) in
          none_differs d a b (c.loop-place.invariant.none before) (h i now);
    }

pub returns : goal.returns
returns c =
    let whole : length c.args.one.now ≤ c.loop-place.place = omega (arith, c.loop-place-test.false) in (
      λ z. same_number_lists c.args.one.now c.args.other.now c.requires
          (λ k lt. c.loop-place.invariant.same z k (omega (arith, lt, whole))),
      λ e. c.loop-place.invariant.none (λ k lt. ap (λ xs. get_or xs k 0) e),
    )
