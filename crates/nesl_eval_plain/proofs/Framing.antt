-- The frames at the turns of a block, with one more on top.
use Rattle.std.proofs.Common.{◌≡◌, ℕ, List, [], ◌∷◌, Some, Bor, ap, ◌∙◌}
use Rattle.std.specs.Prelude.{slice_get, option_map, option_and_then}
use Rattle.nesl_eval_code.specs.Frames.{Frames}
use Rattle.nesl_eval_column_results.specs.declared.block.Block.{Block}
use Rattle.nesl_eval_column_results.specs.declared.columns.Columns.{Columns}
use Rattle.nesl_eval_column_results.specs.declared.scopes.Scopes.{Scopes, Let, Call, Turns}
use Rattle.nesl_eval_column_results.specs.Columns.{value_at}
use Rattle.nesl_eval_column_results.specs.Frames.{bound_at, frames_in}
use Rattle.nesl_eval_column_results.proofs.Framed.{frames-Let, frames-Call, frames-Turns}

-- the frames at some of the turns
pub turns_at : {A T : Type 0} (b : Block A T) (ts : Bor (List ℕ)) (us : List ℕ) (rest : Bor (Scopes A)) (s : Scopes A) (k : ℕ) → ts.now ≡ us → rest.now ≡ s → frames_in b (Turns ts rest) k ≡ option_and_then (frames_in b s) (slice_get us k)
turns_at b ts us rest s k is under =
    frames-Turns b ts rest k ∙ ap (λ xs. option_and_then (frames_in b rest.now) (slice_get xs k)) is ∙ ap (λ r. option_and_then (frames_in b r) (slice_get us k)) under

-- the frame of bindings on top
pub let_at : {A T : Type 0} (b : Block A T) (cs : Bor (List (Columns A))) (ds : List (Columns A)) (rest : Bor (Scopes A)) (k : ℕ) (fs : Frames) → cs.now ≡ ds → frames_in b rest.now k ≡ Some fs → frames_in b (Let cs rest) k ≡ Some (bound_at ds k ∷ fs)
let_at b cs ds rest k fs is e = frames-Let b cs rest k ∙ ap (option_map (λ gs. bound_at cs.now k ∷ gs)) e ∙ ap (λ us. Some (bound_at us k ∷ fs)) is

-- the frame of an argument alone
pub called_at : {A T : Type 0} (b : Block A T) (c : Bor (Columns A)) (d : Columns A) (rest : Bor (Scopes A)) (k : ℕ) (fs : Frames) → c.now ≡ d → frames_in b rest.now k ≡ Some fs → frames_in b (Call c rest) k ≡ Some ((value_at d k ∷ []) ∷ [])
called_at b c d rest k fs is e = frames-Call b c rest k ∙ ap (option_map (λ gs. (value_at c.now k ∷ []) ∷ [])) e ∙ ap (λ u. Some ((value_at u k ∷ []) ∷ [])) is
