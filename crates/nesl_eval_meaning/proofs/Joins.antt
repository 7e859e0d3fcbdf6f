-- The law of halves.
use Rattle.std.proofs.Common.{◌≡◌, ℕ, ◌<◌, ◌≤◌, Bool, true, false, refl, sym, ◌∙◌, ap, arith, List, [], ◌∷◌, ◌++◌, append_assoc}
use Rattle.std.specs.Prelude.{nat_le, if◌then◌else◌}
use Rattle.std.proofs.lemmas.Bool.Decides.{nat_tests}
use Rattle.nesl_eval_meaning.specs.Out.{Out, value, fault, stuck, beside, all_beside, work_of, fits_budget}
use Rattle.nesl_eval_meaning.specs.Out.{exceeds_budget, within}
use Rattle.nesl_eval_meaning.specs.Join.{halves_joined}

within_yes : {X : Type 0} (b : ℕ) (o : Out X) → work_of o ≤ b → within b o ≡ fits_budget o
within_yes b o h = let e : nat_le (work_of o) b ≡ true = grind (arith, nat_tests) in rw e refl

within_no : {X : Type 0} (b : ℕ) (o : Out X) → b < work_of o → within b o ≡ exceeds_budget
within_no b o h = let e : nat_le (work_of o) b ≡ false = grind (arith, nat_tests) in rw e refl

-- the work of two intervals is at least that of the right one
more_work : {X : Type 0} (xs : List X) (w d : ℕ) (o : Out (List X)) (b : ℕ) → b < work_of o → b < work_of (beside (value xs w d) o)
more_work xs w d (value ys w' d') b h = omega arith
more_work xs w d (fault t s w') b h = omega arith
more_work xs w d stuck b h = absurd (omega arith)

left_over : {X : Type 0} (xs : List X) (w d : ℕ) (o : Out (List X)) (b : ℕ) → b < w → (o ≡ stuck → ⊥) → b < work_of (beside (value xs w d) o)
left_over xs w d (value ys w' d') b h n = omega arith
left_over xs w d (fault t s w') b h n = omega arith
left_over xs w d stuck b h n = absurd (n refl)

tests : (m b : ℕ) → (nat_le m b ≡ true → m ≤ b)
tests m b h = grind (arith, nat_tests)

fails : (m b : ℕ) → (nat_le m b ≡ false → b < m)
fails m b h = grind (arith, nat_tests)

-- what is found of two halves under the same budget is found of the whole; the law says nothing where it is stuck
pub join_law : {X : Type 0} (b : ℕ) (o p : Out (List X)) → (p ≡ stuck → ⊥) → halves_joined (within b o) (within b p) b ≡ within b (beside o p)
join_law b stuck p n = elim (nat_le 0 b) as (λ x. halves_joined (if x then fits_budget stuck else exceeds_budget) (within b p) b ≡ (if x then fits_budget stuck else exceeds_budget)) [ true ↦ refl | false ↦ refl ]
join_law b (fault t s w) p n = elim (nat_le w b) as (λ x. halves_joined (if x then fits_budget (fault t s w) else exceeds_budget) (within b p) b ≡ (if x then fits_budget (fault t s w) else exceeds_budget)) [ true ↦ refl | false ↦ refl ]
join_law b (value xs w d) p n = left (nat_le w b) refl
  where
    right : (x : Bool) → nat_le (work_of p) b ≡ x → halves_joined (fits_budget (value xs w d)) (if x then fits_budget p else exceeds_budget) b ≡ within b (beside (value xs w d) p)
    right true e = refl
    right false e = sym (within_no b (beside (value xs w d) p) (more_work xs w d p b (fails (work_of p) b e)))

    left : (x : Bool) → nat_le w b ≡ x → halves_joined (if x then fits_budget (value xs w d) else exceeds_budget) (within b p) b ≡ within b (beside (value xs w d) p)
    left true e = right (nat_le (work_of p) b) refl
    left false e = sym (within_no b (beside (value xs w d) p) (left_over xs w d p b (fails w b e) n))

pub beside_assoc : {X : Type 0} (o p q : Out (List X)) → beside (beside o p) q ≡ beside o (beside p q)
beside_assoc stuck p q = refl
beside_assoc (fault t s w) p q = refl
beside_assoc (value xs w d) stuck q = refl
beside_assoc (value xs w d) (fault t s w') q = refl
beside_assoc (value xs w d) (value ys w' d') stuck = refl
beside_assoc (value xs w d) (value ys w' d') (fault t s v) = ap (λ n. fault t s n) (omega arith)
beside_assoc (value xs w d) (value ys w' d') (value zs v e) = three (append_assoc xs ys zs) (omega arith) (omega arith)
  where
    three : {X : Type 0} {xs ys : List X} {m n i j : ℕ} → xs ≡ ys → m ≡ n → i ≡ j → value xs m i ≡ value ys n j
    three p q r = cc

pub beside_none : {X : Type 0} (o : Out (List X)) → beside (value [] 0 0) o ≡ o
beside_none stuck = refl
beside_none (fault t s w) = ap (λ n. fault t s n) (omega arith)
beside_none (value xs w d) = two (omega arith) (omega arith)
  where
    two : {m n i j : ℕ} → m ≡ n → i ≡ j → value xs m i ≡ value xs n j
    two q r = cc

-- an interval is its two halves side by side
pub all_halved : {I X : Type 0} (f : I → Out (List X)) (is js : List I) → all_beside f (is ++ js) ≡ beside (all_beside f is) (all_beside f js)
all_halved f [] js = sym (beside_none (all_beside f js))
all_halved f (i ∷ is) js = ap (beside (f i)) (all_halved f is js) ∙ sym (beside_assoc (f i) (all_beside f is) (all_beside f js))
