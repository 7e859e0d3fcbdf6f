-- What leaves are found to be.
use Rattle.std.proofs.Common.{◌≡◌, ℕ, zero, suc, ◌+◌, ◌≤◌, subst, Ok, Err, refl, sym, ◌∙◌, ap, arith, List, [], ◌∷◌, map, drop, length, Option, Some, None, Result}
use Rattle.std.specs.Prelude.{slice_get, option_and_then, MatchResult}
use Rattle.std.proofs.lemmas.List.{length-map}
use Rattle.std.proofs.lemmas.Option.{slice_get_past}
use Rattle.nesl_values.specs.View.{tree_of}
use Rattle.nesl_values.specs.declared.value.Value as code
use Rattle.nesl_eval_meaning.specs.Names.{Value}
use Rattle.nesl_eval_meaning.specs.Out.{value}
use Rattle.nesl_eval_code.specs.Exec.{value_at}
use Rattle.nesl_eval_nodes.specs.declared.meter.Stop.{Stop}
use Rattle.nesl_eval_nodes.specs.declared.meter.Stop.TheVariants.{Memory}
use Rattle.nesl_eval_nodes.specs.declared.meter.Meter.{Meter}
use Rattle.nesl_eval_nodes.specs.Meets.{Meets, Is}
use Rattle.nesl_eval_rounds.specs.Slots.{places_of}

further : {X : Type 0} (xs : List X) (b i : ℕ) → slice_get (drop b xs) i ≡ slice_get xs (b + i)
further xs zero i = let e : i ≡ 0 + i = omega arith in ap (slice_get xs) e
further [] (suc b) i = refl
further (x ∷ xs) (suc b) i = let e : suc b + i ≡ suc (b + i) = omega arith in further xs b i ∙ ap (slice_get (x ∷ xs)) (sym e)

-- no value is at a place after them
pub no_value : {A : Type 0} (xs : List (code.Value A)) (b i : ℕ) → length xs ≤ b + i → value_at (drop b (places_of xs)) i ≡ None
no_value xs b i h =
    let long : length (places_of xs) ≡ length xs = length-map (map tree_of xs) Some ∙ length-map xs tree_of in
    ap (option_and_then (λ o. o)) (further (places_of xs) b i ∙ slice_get_past (places_of xs) (b + i) (omega (arith, long)))

at_some : {X : Type 0} (xs : List X) (k : ℕ) → option_and_then (λ o. o) (slice_get (map Some xs) k) ≡ slice_get xs k
at_some [] k = refl
at_some (x ∷ xs) zero = refl
at_some (x ∷ xs) (suc k) = at_some xs k

-- the value at a place, where there is one
pub value_there : {A : Type 0} (xs : List (code.Value A)) (b i k : ℕ) (o : Option Value) → k ≡ b + i → o ≡ slice_get (map tree_of xs) k → value_at (drop b (places_of xs)) i ≡ o
value_there xs b i k o e at =
    ap (option_and_then (λ q. q)) (further (places_of xs) b i) ∙ at_some (map tree_of xs) (b + i) ∙ ap (slice_get (map tree_of xs)) (sym e) ∙ sym at

-- another owner of a value
pub owned : {A : Type 0} (m : Meter) (r : Result (code.Value A) Stop) (x : Value) → MatchResult r (λ v. tree_of v ≡ x) (λ e. e ≡ Memory) → Meets Is m r m (value x 0 0)
owned m (Ok v) x h = (h, omega arith, omega arith)
owned {A} m (Err e) x h = subst (λ y. Meets (Is {A = A}) m (Err y) m (value x 0 0)) (sym h) tt
