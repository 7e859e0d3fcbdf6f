-- What a step of the code means.
use Rattle.std.specs.Prelude.{◌≡◌, List, Option, Some, None, Result, Ok, Err}
use Rattle.nesl_syntax_open.specs.declared.pending.Pending.{Pending}
use Rattle.nesl_syntax_open.specs.declared.mode.Mode.{Mode}
use Rattle.nesl_syntax_open.specs.declared.mode.Mode.TheVariants.{Before, Behind, Typing, Typed}
use Rattle.nesl_syntax_open.specs.declared.fault.ParseFault.{ParseFault}
use Rattle.nesl_syntax_open.specs.declared.fault.ParseFault.TheVariants.{Syntax, Nested, Memory}
use Rattle.nesl_syntax_tree.specs.Trees.{Tree, TypeTree}
use Rattle.nesl_syntax_open.specs.Machine.{State, before, behind, typing, typed}
use Rattle.nesl_syntax_open.specs.Machine as machine
use Rattle.nesl_syntax_tree.specs.Parts.{Sees, SeesType}
use Rattle.nesl_syntax_open.specs.Stack.{SeesStack}

abbrev pub SeesMode : Mode → machine.Mode → Type 0
SeesMode Before m = m ≡ before
SeesMode (Behind b p) m = (e : Tree) × (m ≡ behind b e) × Sees p e
SeesMode Typing m = m ≡ typing
SeesMode (Typed p) m = (a : TypeTree) × (m ≡ typed a) × SeesType p a

-- what a call returned and left is the state after a step, or there is none and the result says so, or memory ran out
abbrev pub Follows : Result Mode ParseFault → List Pending → Option State → Type 0
Follows (Ok m) ps (Some q) = SeesStack ps q.0 × SeesMode m q.1
Follows (Ok m) ps None = ⊥
Follows (Err Syntax) ps q = q ≡ None
Follows (Err Nested) ps q = ⊥
Follows (Err Memory) ps q = Unit {0}
