-- Rows of elements.
use Rattle.std.proofs.Common.{◌≡◌, ℕ, zero, suc, ◌+◌, ◌<◌, ◌≤◌, length, refl, sym, ◌∙◌, ap, arith, List, [], ◌∷◌, ◌++◌, append_assoc, map, take, Result, Ok, Err, Option, Some, None}
use Rattle.std.specs.Prelude.{slice_get, option_and_then, MatchResult}
use Rattle.std.specs.List.{range_with_len}
use Rattle.std.proofs.lemmas.List.FromFn.{length-range_with_len, get_or-range_with_len}
use Rattle.std.proofs.lemmas.List.{map-append}
use Rattle.std.proofs.lemmas.Option.{slice_get-get_or}
use Rattle.nesl_values.specs.Parts.{elements}
use Rattle.nesl_values.specs.View.{tree_of}
use Rattle.nesl_values.specs.declared.value.Value as code
use Rattle.nesl_eval_meaning.specs.Names.{Value}
use Rattle.nesl_eval_code.specs.Frames.{row}
use Rattle.nesl_eval_nodes.specs.declared.meter.Stop.{Stop}
use Rattle.nesl_eval_nodes.specs.declared.meter.Stop.TheVariants.{Memory}
use Rattle.nesl_eval_rounds.specs.Slots.{places_of}

-- the places of more values
pub places_more : {A : Type 0} (xs ys : List (code.Value A)) → places_of (xs ++ ys) ≡ places_of xs ++ places_of ys
places_more xs ys = ap (map Some) (map-append tree_of xs ys) ∙ map-append Some (map tree_of xs) (map tree_of ys)

-- what is at an index of a row, where something is
pub row_element : (vs : List Value) (k i : ℕ) (x : Value) → option_and_then (λ v. slice_get (elements v) k) (slice_get vs i) ≡ Some x → slice_get (row k vs) i ≡ Some (Some x)
row_element [] k i x e = absurd (cc e)
row_element (v ∷ vs) k zero x e = ap Some e
row_element (v ∷ vs) k (suc i) x e = row_element vs k i x e

-- an element that is owned
pub owned : {A : Type 0} (r : Result (code.Value A) Stop) (o : Option (Option Value)) (x : Value) → o ≡ Some (Some x) →
    MatchResult r (λ v. tree_of v ≡ x) (λ e. e ≡ Memory) → MatchResult r (λ v. o ≡ Some (Some (tree_of v))) (λ e. e ≡ Memory)
owned (Ok v) o x e h = e ∙ ap (λ z. Some (Some z)) (sym h)
owned (Err s) o x e h = h

take_on : {X : Type 0} (xs : List X) (i : ℕ) (x : X) → slice_get xs i ≡ Some x → take (i + 1) xs ≡ take i xs ++ x ∷ []
take_on [] i x e = absurd (cc e)
take_on (y ∷ xs) zero x e = let same : y ≡ x = cc e in let one : 0 + 1 ≡ 1 = omega arith in ap (λ k. take k (y ∷ xs)) one ∙ ap (λ z. z ∷ []) same
take_on (y ∷ xs) (suc i) x e = let on : suc i + 1 ≡ suc (i + 1) = omega arith in ap (λ k. take k (y ∷ xs)) on ∙ ap (λ l. y ∷ l) (take_on xs i x e)

-- one more element of a row
pub row_next : {A : Type 0} (old now new : List (code.Value A)) (v : code.Value A) (xs : List (Option Value)) (i : ℕ) →
    slice_get xs i ≡ Some (Some (tree_of v)) → places_of now ≡ places_of old ++ take i xs → new ≡ now ++ v ∷ [] →
    places_of new ≡ places_of old ++ take (i + 1) xs
row_next old now new v xs i e so_far more =
    ap places_of more ∙ places_more now (v ∷ []) ∙ ap (λ l. l ++ Some (tree_of v) ∷ []) so_far
    ∙ append_assoc (places_of old) (take i xs) (Some (tree_of v) ∷ [])
    ∙ ap (λ l. places_of old ++ l) (sym (take_on xs i (Some (tree_of v)) e))

-- the places of all turns
pub range_at : (n k : ℕ) → k < n → Some k ≡ slice_get (range_with_len 0 n) k
range_at n k h =
    let long = length-range_with_len 0 n in
    let it : 0 + k ≡ k = omega arith in
    sym (slice_get-get_or (range_with_len 0 n) k 0 (omega (arith, long, h)) ∙ ap Some (get_or-range_with_len 0 n k 0 h ∙ it))

past : {X : Type 0} (xs : List X) (k : ℕ) → length xs ≤ k → None ≡ slice_get xs k
past [] zero h = refl
past [] (suc k) h = refl
past (x ∷ xs) zero h = absurd (omega (arith, h))
past (x ∷ xs) (suc k) h = past xs k (omega (arith, h))

pub range_past : (n k : ℕ) → n ≤ k → None ≡ slice_get (range_with_len 0 n) k
range_past n k h = past (range_with_len 0 n) k (omega (arith, length-range_with_len 0 n, h))
