use Rattle.std.proofs.Common.{List, vec_len}
use Rattle.nesl_syntax_tree.specs.Trees.{Tree}
use Rattle.nesl_syntax_open.specs.Machine.{Waiting}
use Rattle.nesl_syntax_tree.specs.Parts.{Sees}
use Rattle.nesl_syntax_open.specs.Stack.{SeesStack, Folds}
use Rattle.nesl_syntax_open.proofs.pending.fold_open.Given as goal

-- what is left folds as all did
abbrev pub invariant-loop-pending : goal.invariant-loop-pending
invariant-loop-pending l = (ws : List Waiting) (x : Tree) → SeesStack l.fn.stack.items ws → Sees l.fn.part x → Folds l.level ws x l.stack.items l.part

abbrev pub decreases-loop-pending : goal.decreases-loop-pending
decreases-loop-pending l = vec_len l.stack
