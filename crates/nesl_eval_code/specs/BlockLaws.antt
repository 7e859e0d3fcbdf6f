-- The law of blocks.
use Rattle.std.specs.Prelude.{◌≡◌, ℕ, ◌-◌, List, [], ◌∷◌, map, length, Some}
use Rattle.nesl_eval_code.specs.declared.code.Code.{Code}
use Rattle.nesl_eval_meaning.specs.Names.{Value}
use Rattle.nesl_eval_meaning.specs.Out.{and_then}
use Rattle.nesl_eval_code.specs.Frames.{Frames}
use Rattle.nesl_eval_code.specs.Run.{Table, run}
use Rattle.nesl_eval_code.specs.Block.{Block}
use Rattle.nesl_eval_code.specs.Exec.{laid, exec}
use Rattle.nesl_eval_code.specs.Flat.{flat, block}

-- the sizes of frames
abbrev pub sizes : Frames → List ℕ
sizes fs = map length fs

-- the block of code evaluates to what the code does
abbrev pub RunsAsCode : Type 0
RunsAsCode = (t : Table) (n : ℕ) (fs : Frames) (c : Code) → exec t n (laid fs) (block (sizes fs) c) [] ≡ run n t fs c

-- and before another block, at any height, it leaves on the stack what the code evaluates to
abbrev pub LeavesItsValue : Type 0
LeavesItsValue =
    (t : Table) (n h : ℕ) (fs : Frames) (c : Code) (b : Block) (vs : List Value) →
    exec t n (laid fs) (flat h (sizes fs) c (Some b)) vs
    ≡ and_then (run (n - h) t fs c) (λ v. exec t n (laid fs) b (v ∷ vs))
