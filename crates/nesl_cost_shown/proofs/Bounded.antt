-- The bounds of the steps on processors.
use Rattle.std.proofs.Common.{◌≡◌, ℕ, ◌+◌, ◌*◌, ◌/◌, ◌<◌, ◌≤◌, max, ap, ◌∙◌, subst, arith}
use Rattle.std.specs.Int.{div_ceil}
use Rattle.std.proofs.lemmas.Grind.{div_ceil_times}
use Rattle.std.proofs.lemmas.Nat.{le-div}
use Rattle.std.proofs.Math.Nat.{add-mul, mul_comm, add-mul-div_left, lt_of_mul-lt-mul_right}
use Rattle.nesl_cost_meaning.specs.Cost.{depth_in}
use Rattle.nesl_cost_meaning.specs.Steps.{levels_in, steps}
use Rattle.nesl_cost_shown.specs.Bounds.{BoundSteps}

at_least : (p w t : ℕ) → 0 < p → w ≤ t * p → div_ceil w p ≤ t
at_least p w t h l =
    let a : div_ceil w p * p < w + p = (div_ceil_times w p h).1 in
    let e : (t + 1) * p ≡ t * p + 1 * p = add-mul t 1 p in
    let f : 1 * p ≡ p = omega arith in
    let b : div_ceil w p < t + 1 = lt_of_mul-lt-mul_right p {m = div_ceil w p} {n = t + 1} (omega (arith, a, l, e, f)) in
    omega (arith, b)

at_most : (p w d t : ℕ) → 0 < p → t * p ≤ w + d * p → t ≤ w / p + d
at_most p w d t h l =
    subst (λ (n : ℕ). t ≤ n) (ap (λ (n : ℕ). (w + n) / p) (mul_comm d p) ∙ add-mul-div_left w d h) (le-div t (w + d * p) p h l)

greatest : (m d t : ℕ) → m ≤ t → d ≤ t → max m d ≤ t
greatest m d t a b = omega (arith, a, b)

pub bounds_hold : (p w d : ℕ) → 0 < p → BoundSteps p w d (max (div_ceil w p) d) (w / p + d)
bounds_hold p w d h =
    λ c e f b.
    let t : ℕ = steps p (levels_in c).each in (
      greatest (div_ceil w p) d t (at_least p w t h (subst (λ (n : ℕ). n ≤ t * p) e b.1)) (subst (λ (n : ℕ). n ≤ t) f b.0),
      at_most p w d t h (subst (λ (n : ℕ). t * p ≤ w + n * p) f (subst (λ (n : ℕ). t * p ≤ n + depth_in c * p) e b.2)),
    )
