-- What is at the places of frames.
use Rattle.std.proofs.Common.{◌≡◌, ℕ, zero, suc, ◌-◌, ◌<◌, List, ◌∷◌, map, length, take, drop, Option, Some, None, refl, sym, ap, ◌∙◌, arith}
use Rattle.std.specs.Prelude.{slice_get, option_map, option_and_then}
use Rattle.std.proofs.lemmas.Option.{slice_get-map}
use Rattle.std.proofs.lemmas.List.{length-map, drop-map, take-map}
use Rattle.nesl_values.specs.declared.value.Value as code
use Rattle.nesl_values.specs.View.{tree_of}
use Rattle.nesl_values.specs.Parts.{elements}
use Rattle.nesl_eval_meaning.specs.Names.{Value}
use Rattle.nesl_eval_code.specs.Frames.{Frames, place_in, frame, row}
use Rattle.nesl_eval_nodes.specs.Scopes.{cut}

pub in_tail : (vs : List (Option Value)) (fs : Frames) (up i : ℕ) → 0 < up → place_in (vs ∷ fs) up i ≡ place_in fs (up - 1) i
in_tail vs fs zero i h = absurd (omega arith)
in_tail vs fs (suc n) i h = let same : suc n - 1 ≡ n = omega arith in rw same refl

pub in_frame : (vs : List Value) (fs : Frames) (i : ℕ) → place_in (frame vs ∷ fs) 0 i ≡ slice_get vs i
in_frame vs fs i = rw (slice_get-map Some vs i) (elim (slice_get vs i) as (λ o. option_and_then (λ x. x) (option_map Some o) ≡ o) [ Some v ↦ refl | None ↦ refl ])

pub in_row : (vs : List Value) (fs : Frames) (k i : ℕ) → place_in (row k vs ∷ fs) 0 i ≡ option_and_then (λ v. slice_get (elements v) k) (slice_get vs i)
in_row vs fs k i = rw (slice_get-map (λ v. slice_get (elements v) k) vs i) (elim (slice_get vs i) as (λ o. option_and_then (λ x. x) (option_map (λ v. slice_get (elements v) k) o) ≡ option_and_then (λ v. slice_get (elements v) k) o) [ Some v ↦ refl | None ↦ refl ])

-- the newest of frames that lie end to end, and those below it
module _ {A : Type 0} (k : ℕ) (ks ss : List ℕ) (vs outer newest : List (code.Value A)) where
  cut_at : ss ≡ k ∷ ks → outer ≡ take (length vs - k) vs → newest ≡ drop (length vs - k) vs → cut ss (map tree_of vs) ≡ frame (map tree_of newest) ∷ cut ks (map tree_of outer)
  cut_at is before behind =
      let start = length vs - k in
      ap (λ js. cut js (map tree_of vs)) is
      ∙ ap (λ n. frame (drop (n - k) (map tree_of vs)) ∷ cut ks (take (n - k) (map tree_of vs))) (length-map vs tree_of)
      ∙ ap (λ us. frame us ∷ cut ks (take start (map tree_of vs))) (drop-map tree_of start vs ∙ ap (map tree_of) (sym behind))
      ∙ ap (λ us. frame (map tree_of newest) ∷ cut ks us) (take-map tree_of start vs ∙ ap (map tree_of) (sym before))

  pub at_newest : (up i : ℕ) (q : Option Value) → ss ≡ k ∷ ks → outer ≡ take (length vs - k) vs → newest ≡ drop (length vs - k) vs → up ≡ 0 → q ≡ slice_get (map tree_of newest) i → q ≡ place_in (cut ss (map tree_of vs)) up i
  at_newest up i q is before behind none e =
      e ∙ sym (in_frame (map tree_of newest) (cut ks (map tree_of outer)) i)
      ∙ ap (λ fs. place_in fs 0 i) (sym (cut_at is before behind)) ∙ ap (λ n. place_in (cut ss (map tree_of vs)) n i) (sym none)

  pub below_newest : (up i : ℕ) → 0 < up → ss ≡ k ∷ ks → outer ≡ take (length vs - k) vs → newest ≡ drop (length vs - k) vs → place_in (cut ss (map tree_of vs)) up i ≡ place_in (cut ks (map tree_of outer)) (up - 1) i
  below_newest up i some is before behind =
      ap (λ fs. place_in fs up i) (cut_at is before behind) ∙ in_tail (frame (map tree_of newest)) (cut ks (map tree_of outer)) up i some
