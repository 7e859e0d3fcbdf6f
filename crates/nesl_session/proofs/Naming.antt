-- The names of a session, one after another.
use Rattle.std.proofs.Common.{◌≡◌, ℕ, ◌+◌, ◌<◌, ◌≤◌, suc, List, [], ◌∷◌, Option, Some, None, length, map, drop, get_or, sym, ◌∙◌, arith, option_map, Bor}
use Rattle.std.specs.Prelude.{slice_get, MatchOption}
use Rattle.std.proofs.Math.Seq.{drop-cons}
use Rattle.std.proofs.lemmas.List.{length-map, drop_all}
use Rattle.std.proofs.lemmas.Option.{slice_get-map, slice_get_within, slice_get-get_or, get_or_from_slice_get}
use Rattle.nesl_session_bindings.specs.Meanings.{Binding}

drop_at : {X : Type 0} (xs : List X) (k : ℕ) (x : X) → slice_get xs k ≡ Some x → drop k xs ≡ x ∷ drop (k + 1) xs
drop_at xs k x e =
    let a : drop k xs ≡ get_or xs k x ∷ drop (suc k) xs = drop-cons xs k x (slice_get_within xs k x e) in
    let b : get_or xs k x ≡ x = get_or_from_slice_get xs k x x e in
    let c : suc k ≡ k + 1 = omega arith in
    a ∙ λ i. b i ∷ drop (c i) xs

first_name : (ns : List (List ℕ)) (place : ℕ) (r : Option (Bor (List ℕ))) → place < length ns → option_map (λ x. x.now) r ≡ slice_get ns place
    → MatchOption r ((drop place ns ≡ []) × (drop (place + 1) ns ≡ [])) (λ x. drop place ns ≡ x.now ∷ drop (place + 1) ns)
first_name ns place None h e = let there : slice_get ns place ≡ Some (get_or ns place []) = slice_get-get_or ns place [] h in absurd cc
first_name ns place (Some x) h e = drop_at ns place x.now (sym e)

pub next_name : (bs : List Binding) (place : ℕ) (r : Option (Bor (List ℕ))) → place < length bs → option_map (λ x. x.now) r ≡ option_map (λ b. b.name) (slice_get bs place)
    → MatchOption r ((drop place (map (λ b. b.name) bs) ≡ []) × (drop (place + 1) (map (λ b. b.name) bs) ≡ [])) (λ x. drop place (map (λ b. b.name) bs) ≡ x.now ∷ drop (place + 1) (map (λ b. b.name) bs))
next_name bs place r h e =
    let n : length (map (λ (b : Binding). b.name) bs) ≡ length bs = length-map bs (λ b. b.name) in
    first_name (map (λ b. b.name) bs) place r (omega (arith, n)) (e ∙ sym (slice_get-map (λ b. b.name) bs place))

pub no_name : (bs : List Binding) (place : ℕ) → length bs ≤ place → drop place (map (λ b. b.name) bs) ≡ []
no_name bs place h =
    let n : length (map (λ (b : Binding). b.name) bs) ≡ length bs = length-map bs (λ b. b.name) in
    drop_all place (map (λ b. b.name) bs) (omega (arith, n))
