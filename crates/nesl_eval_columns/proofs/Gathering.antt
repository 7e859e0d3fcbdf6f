-- Leaves at other places.
use Rattle.std.proofs.Common.{◌≡◌, ℕ, Bool, true, false, cond, List, [], ◌∷◌, map, ap, ◌∙◌, Some}
use Rattle.std.specs.Prelude.{slice_get, option_map}
use Rattle.std.proofs.lemmas.Option.{slice_get-map}
use Rattle.nesl_eval_columns.specs.Each.{EachTwo, EachThree}

module _ {X Y : Type 0} (leaf : X → Y) where
  pub mapped_two : (xs : List X) (is : List ℕ) (ys : List X) → EachTwo (λ i x. slice_get xs i ≡ Some x) is ys → EachTwo (λ i v. slice_get (map leaf xs) i ≡ Some v) is (map leaf ys)
  mapped_two xs [] [] h = tt
  mapped_two xs (i ∷ is) (y ∷ ys) h = (slice_get-map leaf xs i ∙ ap (option_map leaf) h.0, mapped_two xs is ys h.1)
  mapped_two xs _ _ h = absurd h

  either_mapped : (xs ys : List X) (b : Bool) (i : ℕ) (z : X) → cond b (slice_get xs i) (slice_get ys i) ≡ Some z → cond b (slice_get (map leaf xs) i) (slice_get (map leaf ys) i) ≡ Some (leaf z)
  either_mapped xs ys true i z h = slice_get-map leaf xs i ∙ ap (option_map leaf) h
  either_mapped xs ys false i z h = slice_get-map leaf ys i ∙ ap (option_map leaf) h

  pub mapped_three : (xs ys : List X) (bs : List Bool) (is : List ℕ) (zs : List X) → EachThree (λ b i x. cond b (slice_get xs i) (slice_get ys i) ≡ Some x) bs is zs → EachThree (λ b i v. cond b (slice_get (map leaf xs) i) (slice_get (map leaf ys) i) ≡ Some v) bs is (map leaf zs)
  mapped_three xs ys [] [] [] h = tt
  mapped_three xs ys (b ∷ bs) (i ∷ is) (z ∷ zs) h = (either_mapped xs ys b i z h.0, mapped_three xs ys bs is zs h.1)
  mapped_three xs ys _ _ _ h = absurd h

-- what follows at each place
pub two_so : {X Y : Type 0} (P Q : X → Y → Type 0) → ((x : X) (y : Y) → P x y → Q x y) → (xs : List X) (ys : List Y) → EachTwo P xs ys → EachTwo Q xs ys
two_so P Q law [] [] h = tt
two_so P Q law (x ∷ xs) (y ∷ ys) h = (law x y h.0, two_so P Q law xs ys h.1)
two_so P Q law _ _ h = absurd h

pub three_so : {X Y Z : Type 0} (P Q : X → Y → Z → Type 0) → ((x : X) (y : Y) (z : Z) → P x y z → Q x y z) → (xs : List X) (ys : List Y) (zs : List Z) → EachThree P xs ys zs → EachThree Q xs ys zs
three_so P Q law [] [] [] h = tt
three_so P Q law (x ∷ xs) (y ∷ ys) (z ∷ zs) h = (law x y z h.0, three_so P Q law xs ys zs h.1)
three_so P Q law _ _ _ h = absurd h
