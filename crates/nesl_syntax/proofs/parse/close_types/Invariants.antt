use Rattle.std.proofs.Common.{List, vec_len}
use Rattle.nesl_syntax_tree.specs.Trees.{TypeTree}
use Rattle.nesl_syntax_open.specs.Machine.{Waiting}
use Rattle.nesl_syntax_tree.specs.Parts.{SeesType}
use Rattle.nesl_syntax_open.specs.Stack.{SeesStack}
use Rattle.nesl_syntax.specs.Steps.{Closes}
use Rattle.nesl_syntax.proofs.parse.close_types.Given as goal

-- what is left closes as all did
abbrev pub invariant-types : goal.invariant-types
invariant-types l = (ws : List Waiting) (a : TypeTree) → SeesStack l.fn.stack.items ws → SeesType l.fn.part a → Closes l.at ws a l.stack.items l.part

abbrev pub decreases-types : goal.decreases-types
decreases-types l = vec_len l.stack
