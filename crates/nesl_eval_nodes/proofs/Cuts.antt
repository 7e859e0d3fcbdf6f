-- Frames that lie end to end.
use Rattle.std.proofs.Common.{◌≡◌, ℕ, ◌-◌, List, [], ◌∷◌, ◌++◌, map, length, take, drop, Some, refl, sym, ap, ◌∙◌, arith, length-drop}
use Rattle.std.proofs.lemmas.List.{length-map, length-take, map-append, take-append-drop}
use Rattle.nesl_eval_meaning.specs.Names.{Value}
use Rattle.nesl_eval_code.specs.Frames.{frame}
use Rattle.nesl_eval_code.specs.Flat.{room}
use Rattle.nesl_eval_code.specs.Exec.{laid}
use Rattle.nesl_eval_code.specs.BlockLaws.{sizes}
use Rattle.nesl_eval_nodes.specs.Scopes.{cut}

none_left : {X : Type 0} (xs : List X) → length xs ≡ 0 → [] ≡ xs
none_left [] e = refl
none_left (x ∷ xs) e = absurd (omega arith)

before : (k : ℕ) (ks : List ℕ) (vs : List Value) → length vs ≡ room (k ∷ ks) → length (take (length vs - k) vs) ≡ room ks
before k ks vs e = omega (arith, length-take (length vs - k) vs)

-- the frames of values, laid end to end, are the values
pub laid_cut : (ks : List ℕ) (vs : List Value) → length vs ≡ room ks → laid (cut ks vs) ≡ map Some vs
laid_cut [] vs e = ap (map Some) (none_left vs e)
laid_cut (k ∷ ks) vs e =
    ap (λ ps. ps ++ frame (drop (length vs - k) vs)) (laid_cut ks (take (length vs - k) vs) (before k ks vs e))
    ∙ sym (map-append Some (take (length vs - k) vs) (drop (length vs - k) vs))
    ∙ ap (map Some) (take-append-drop (length vs - k) vs)

-- and they have these sizes
pub sizes_cut : (ks : List ℕ) (vs : List Value) → length vs ≡ room ks → sizes (cut ks vs) ≡ ks
sizes_cut [] vs e = refl
sizes_cut (k ∷ ks) vs e =
    let newest : length (frame (drop (length vs - k) vs)) ≡ k = length-map (drop (length vs - k) vs) Some ∙ omega (arith, length-drop (length vs - k) vs) in
    ap (λ n. n ∷ sizes (cut ks (take (length vs - k) vs))) newest
    ∙ ap (λ js. k ∷ js) (sizes_cut ks (take (length vs - k) vs) (before k ks vs e))
