-- The operations of the bodies, by place.
use Rattle.std.proofs.Common.{◌≡◌, ℕ, zero, suc, ◌∙◌, ap, subst, List, [], ◌∷◌, Option, Some, None}
use Rattle.std.specs.Prelude.{slice_get, set}
use Rattle.nesl_types.specs.declared.bindings.Top as kinds
use Rattle.nesl_types.specs.declared.bindings.Top.TheVariants as kind
use Rattle.nesl_eval_code.specs.declared.code.Code.{Code}
use Rattle.nesl_eval_code.specs.Run.{slot_at, function_slot}
use Rattle.nesl_eval_code.specs.Flat.{block}
use Rattle.nesl_eval_ops.specs.declared.ops.Ops.{Ops}
use Rattle.nesl_eval_ops.specs.View.{block_of}
use Rattle.nesl_eval_top_level.specs.declared.env.Payload.{Payload}
use Rattle.nesl_eval_top_level.specs.declared.env.Payload.TheVariants as payload
use Rattle.nesl_eval_top_level.specs.Stored.{Entry, Codes, slot_of, table, put}
use Rattle.nesl_eval_top_level.specs.Laid.{IsLaid, AreLaid}

-- where there is a function's slot, its code is there, and so are its operations
slot_laid : (t : kinds.Top) (p : Payload) (c : Option Code) (o : Ops) (d : Code) → IsLaid c (Some o) → slot_of t p c ≡ function_slot d →
    block_of o ≡ block (1 ∷ []) d
slot_laid t p None o d h e = absurd h
slot_laid t (payload.Variable v) (Some c) o d h e = absurd cc
slot_laid t (payload.Function p b) (Some c) o d h e = let same : c ≡ d = cc in h ∙ ap (block (1 ∷ [])) same
slot_laid (kind.Variable a) payload.Datatype (Some c) o d h e = absurd cc
slot_laid (kind.Function s) payload.Datatype (Some c) o d h e = absurd cc
slot_laid (kind.Datatype tag held) payload.Datatype (Some c) o d h e = absurd cc

pub has_bodies : (bs : List Entry) (cs : Codes) (os : List (Option Ops)) → AreLaid cs os → (k : ℕ) (p : Ops) (d : Code) →
    slice_get os k ≡ Some (Some p) → slot_at (table bs cs) k ≡ Some (function_slot d) → block_of p ≡ block (1 ∷ []) d
has_bodies bs [] [] h k p d e f = absurd cc
has_bodies bs [] (o ∷ os) h k p d e f = absurd h
has_bodies bs (c ∷ cs) [] h k p d e f = absurd h
has_bodies [] (c ∷ cs) (o ∷ os) h k p d e f = absurd cc
has_bodies (b ∷ bs) (c ∷ cs) (o ∷ os) h zero p d e f =
    let here : o ≡ Some p = cc in
    let slot : slot_of b.1 b.2 c ≡ function_slot d = cc in
    slot_laid b.1 b.2 c p d (subst (IsLaid c) here h.0) slot
has_bodies (b ∷ bs) (c ∷ cs) (o ∷ os) h (suc k) p d e f = has_bodies bs cs os h.1 k p d e f

-- a body at a place
laid_at : (k : ℕ) (c : Option Code) (o : Option Ops) (cs : Codes) (os : List (Option Ops)) → IsLaid c o → AreLaid cs os → AreLaid (set cs k c) (set os k o)
laid_at k c o [] [] l h = tt
laid_at k c o [] (p ∷ os) l h = absurd h
laid_at k c o (d ∷ cs) [] l h = absurd h
laid_at zero c o (d ∷ cs) (p ∷ os) l h = (l, h.1)
laid_at (suc k) c o (d ∷ cs) (p ∷ os) l h = (h.0, laid_at k c o cs os l h.1)

-- a body more, or another one
pub laid_more : (k : Option ℕ) (c : Option Code) (o : Option Ops) (cs : Codes) (os : List (Option Ops)) → IsLaid c o → AreLaid cs os →
    AreLaid (put k c cs) (put k o os)
laid_more (Some k) c o cs os l h = laid_at k c o cs os l h
laid_more None c o [] [] l h = (l, tt)
laid_more None c o [] (p ∷ os) l h = absurd h
laid_more None c o (d ∷ cs) [] l h = absurd h
laid_more None c o (d ∷ cs) (p ∷ os) l h = (h.0, laid_more None c o cs os l h.1)

-- a body less
pub laid_without : (i : ℕ) (cs : Codes) (os : List (Option Ops)) → AreLaid cs os → AreLaid (set cs i None) (set os i None)
laid_without i cs os h = laid_at i None None cs os tt h
