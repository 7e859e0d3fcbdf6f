-- The operations of the bodies, by place.
use Rattle.std.specs.Prelude.{◌≡◌, List, [], ◌∷◌, Option, Some, None}
use Rattle.nesl_eval_code.specs.declared.code.Code.{Code}
use Rattle.nesl_eval_code.specs.Flat.{block}
use Rattle.nesl_eval_ops.specs.declared.ops.Ops.{Ops}
use Rattle.nesl_eval_ops.specs.View.{block_of}
use Rattle.nesl_eval_top_level.specs.Stored.{Codes}

-- the operations are those of a body's code, which sees only its argument; a name that is no function has neither
abbrev pub IsLaid : Option Code → Option Ops → Type 0
IsLaid None None = Unit {0}
IsLaid None (Some o) = ⊥
IsLaid (Some c) None = ⊥
IsLaid (Some c) (Some o) = block_of o ≡ block (1 ∷ []) c

-- the same for each place
abbrev pub AreLaid : Codes → List (Option Ops) → Type 0
AreLaid [] [] = Unit {0}
AreLaid [] (o ∷ os) = ⊥
AreLaid (c ∷ cs) [] = ⊥
AreLaid (c ∷ cs) (o ∷ os) = IsLaid c o × AreLaid cs os
