-- The values of columns at turns.
use Rattle.std.proofs.Common.{◌≡◌, ℕ, zero, suc, ◌<◌, ◌≤◌, List, [], ◌∷◌, length, true, Option, Some, None, refl, sym, ap, ◌∙◌, arith, get_or, pos}
use Rattle.std.specs.Prelude.{slice_get, ◌==◌}
use Rattle.std.proofs.lemmas.Option.{same_Some, none-some, slice_get-get_or}
use Rattle.std.proofs.lemmas.Bool.Decides.{nat_tests}
use Rattle.nesl_values.specs.Tree.{int, pair, size}
use Rattle.nesl_eval_code.specs.declared.code.Step.{Step}
use Rattle.nesl_eval_code.specs.declared.code.Step.TheVariants.{Left, Right}
use Rattle.nesl_eval_code.specs.Frames.{followed}
use Rattle.nesl_eval_meaning.specs.Names.{Value}
use Rattle.nesl_eval_columns.specs.declared.column.Column.{Column}
use Rattle.nesl_eval_columns.specs.Columns.{leaves_of}
use Rattle.nesl_eval_column_results.specs.Columns.{both, SameUpTo, Leads}
use Rattle.nesl_eval_column_results.specs.Values.{pairs_of}
use Rattle.nesl_eval_column_results.proofs.Pairing.{leaves_sized, sized_at}

-- no step
pub none_left : {X : Type 0} (xs : List X) → true ≡ (length xs == 0) → xs ≡ []
none_left [] h = refl
none_left (x ∷ xs) h = absurd (grind (arith, nat_tests))

pub none_len : {X : Type 0} (xs : List X) → length xs ≡ 0 → xs ≡ []
none_len [] h = refl
none_len (x ∷ xs) h = absurd (omega arith)

-- the parts of a pair that is there
pub both_some : (o p : Option Value) (v : Value) → both o p ≡ Some v → (x : Value) × (y : Value) × (o ≡ Some x) × (p ≡ Some y) × (v ≡ pair x y)
both_some (Some x) (Some y) v e = (x, y, refl, refl, sym (same_Some (pair x y) v e))
both_some (Some x) None v e = absurd (none-some v e)
both_some None p v e = absurd (none-some v e)

both-None : (o : Option Value) → both o None ≡ None
both-None (Some x) = refl
both-None None = refl

pub both_are : (o p : Option Value) (x y : Value) → o ≡ Some x → p ≡ Some y → both o p ≡ Some (pair x y)
both_are o p x y e f = ap (λ q. both q p) e ∙ ap (both (Some x)) f

-- leaves
pub leaf_size : {A : Type 0} (c : Column A) (k : ℕ) (v : Value) → slice_get (leaves_of c) k ≡ Some v → size v ≡ 1
leaf_size c k v e = sized_at 1 (leaves_of c) k v (leaves_sized c) e

pub leaf_within : (vs : List Value) (n k : ℕ) → n ≤ length vs → k < n → (v : Value) × (slice_get vs k ≡ Some v)
leaf_within vs n k h l = (get_or vs k (int (pos 0)), slice_get-get_or vs k (int (pos 0)) (omega arith))

-- pairs
pub pairs_both : (xs ys : List Value) (k : ℕ) → slice_get (pairs_of xs ys) k ≡ both (slice_get xs k) (slice_get ys k)
pairs_both [] ys k = refl
pairs_both (x ∷ xs) [] k = sym (both-None (slice_get (x ∷ xs) k))
pairs_both (x ∷ xs) (y ∷ ys) zero = refl
pairs_both (x ∷ xs) (y ∷ ys) (suc k) = pairs_both xs ys k

pub both_up_to : (n : ℕ) (us vs xs ys zs : ℕ → Option Value) → SameUpTo n us xs → SameUpTo n vs ys → ((k : ℕ) → zs k ≡ both (xs k) (ys k)) → SameUpTo n (λ k. both (us k) (vs k)) zs
both_up_to n us vs xs ys zs h i law = λ k l. law k ∙ ap (λ o. both o (ys k)) (h k l) ∙ ap (both (us k)) (i k l)

-- what steps lead to
pub no_step : (steps : List Step) (xs ys : ℕ → Option Value) → true ≡ (length steps == 0) → ((k : ℕ) → ys k ≡ xs k) → Leads steps xs ys
no_step steps xs ys none same = λ k v e. (v, ap (λ ss. followed ss v) (none_left steps none), same k ∙ e)

pub no_steps : (steps : List Step) (us vs xs ys zs : ℕ → Option Value) → steps ≡ [] → Leads steps us xs → Leads steps vs ys → ((k : ℕ) → zs k ≡ both (xs k) (ys k)) → Leads steps (λ k. both (us k) (vs k)) zs
no_steps steps us vs xs ys zs none h i law = λ k v e.
    let w = both_some (us k) (vs k) v e in
    let x = h k w.0 w.2 in
    let y = i k w.1 w.3 in
    let own : (u z : Value) → followed steps u ≡ Some z → u ≡ z = λ u z q. same_Some u z (ap (λ ss. followed ss u) (sym none) ∙ q) in
    (v, ap (λ ss. followed ss v) none, law k ∙ both_are (xs k) (ys k) x.0 y.0 x.2 y.2 ∙ ap (λ u. Some (pair u y.0)) (sym (own w.0 x.0 x.1)) ∙ ap (λ u. Some (pair w.0 u)) (sym (own w.1 y.0 y.1)) ∙ ap Some (sym w.4))

pub to_left : (steps rest : List Step) (us vs ys : ℕ → Option Value) → steps ≡ Left ∷ rest → Leads rest us ys → Leads steps (λ k. both (us k) (vs k)) ys
to_left steps rest us vs ys is h = λ k v e.
    let w = both_some (us k) (vs k) v e in
    let x = h k w.0 w.2 in
    (x.0, ap (λ ss. followed ss v) is ∙ ap (followed (Left ∷ rest)) w.4 ∙ x.1, x.2)

pub to_right : (steps rest : List Step) (us vs ys : ℕ → Option Value) → steps ≡ Right ∷ rest → Leads rest vs ys → Leads steps (λ k. both (us k) (vs k)) ys
to_right steps rest us vs ys is h = λ k v e.
    let w = both_some (us k) (vs k) v e in
    let x = h k w.1 w.3 in
    (x.0, ap (λ ss. followed ss v) is ∙ ap (followed (Right ∷ rest)) w.4 ∙ x.1, x.2)

pub same_leads : (steps : List Step) (v w : Value) (ys : ℕ → Option Value) → Some w ≡ followed steps v → ((k : ℕ) → ys k ≡ Some w) → Leads steps (λ k. Some v) ys
same_leads steps v w ys e same = λ k u q. (w, ap (followed steps) (sym (same_Some v u q)) ∙ sym e, same k)
