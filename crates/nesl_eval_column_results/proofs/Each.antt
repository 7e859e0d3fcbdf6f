-- What is at the same place of lists that are related.
use Rattle.std.proofs.Common.{◌≡◌, ℕ, zero, suc, List, [], ◌∷◌, refl, subst, Some}
use Rattle.std.specs.Prelude.{slice_get}
use Rattle.nesl_eval_columns.specs.Each.{EachTwo, EachThree}
use Rattle.std.proofs.lemmas.Option.{same_Some, none-some}

-- what follows at each place
pub each_so : {X Y : Type 0} (P Q : X → Y → Type 0) → ((x : X) (y : Y) → P x y → Q x y) → (xs : List X) (ys : List Y) → EachTwo P xs ys → EachTwo Q xs ys
each_so P Q law [] [] h = tt
each_so P Q law (x ∷ xs) (y ∷ ys) h = (law x y h.0, each_so P Q law xs ys h.1)
each_so P Q law _ _ h = absurd h

-- what is at a turn of lists that are related
pub each_at : {X Y : Type 0} (P : X → Y → Type 0) (xs : List X) (ys : List Y) (k : ℕ) (x : X) → EachTwo P xs ys → slice_get xs k ≡ Some x → (y : Y) × (slice_get ys k ≡ Some y) × P x y
each_at P [] ys k x h e = absurd (none-some x e)
each_at P (a ∷ xs) [] k x h e = absurd h
each_at P (a ∷ xs) (b ∷ ys) zero x h e = (b, refl, subst (λ z. P z b) (same_Some a x e) h.0)
each_at P (a ∷ xs) (b ∷ ys) (suc k) x h e = each_at P xs ys k x h.1 e

pub three_at : {X Y Z : Type 0} (P : X → Y → Z → Type 0) (xs : List X) (ys : List Y) (zs : List Z) (k : ℕ) (x : X) (y : Y) → EachThree P xs ys zs → slice_get xs k ≡ Some x → slice_get ys k ≡ Some y → (z : Z) × (slice_get zs k ≡ Some z) × P x y z
three_at P [] ys zs k x y h e f = absurd (none-some x e)
three_at P (a ∷ xs) [] zs k x y h e f = absurd (none-some y f)
three_at P (a ∷ xs) (b ∷ ys) [] k x y h e f = absurd h
three_at P (a ∷ xs) (b ∷ ys) (c ∷ zs) zero x y h e f = (c, refl, subst (λ u. P u y c) (same_Some a x e) (subst (λ v. P a v c) (same_Some b y f) h.0))
three_at P (a ∷ xs) (b ∷ ys) (c ∷ zs) (suc k) x y h e f = three_at P xs ys zs k x y h.1 e f
