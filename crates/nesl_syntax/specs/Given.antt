-- What a part of a line means that a call returned.
use Rattle.std.specs.Prelude.{◌≡◌, ◌≤◌, ◌<◌, ℕ, List, ◌++◌, codes, map, option_map, Option, Some, None, Result, Ok, Err}
use Rattle.nesl_syntax_open.specs.declared.fault.ParseFault.{ParseFault}
use Rattle.nesl_syntax_open.specs.declared.fault.ParseFault.TheVariants.{Syntax, Nested, Memory}
use Rattle.nesl_syntax_tree.specs.declared.tree.Exp.{Exp}
use Rattle.nesl_syntax_tree.specs.declared.tree.Signature.{Signature}
use Rattle.nesl_syntax_tree.specs.declared.tree.Member.{Member}
use Rattle.nesl_syntax.specs.declared.signature.SignaturePart.{SignaturePart}
use Rattle.nesl_syntax.specs.declared.signature.SignaturePart.TheVariants as signatures
use Rattle.nesl_syntax.specs.declared.signature.Target.{Target}
use Rattle.nesl_syntax.specs.declared.function.Head.{Head}
use Rattle.nesl_syntax.specs.declared.line.Line.{Line}
use Rattle.nesl_syntax.specs.declared.line.Line.TheVariants as lines
use Rattle.std.specs.Global.{Box}
use Rattle.nesl_syntax_tree.specs.Trees.{Tree, MemberTree, SignatureTree, FormTree, show_names, show_budget, height}
use Rattle.nesl_syntax_tree.specs.Trees.{signature_height, form_height}
use Rattle.nesl_syntax_tree.specs.Trees as trees
use Rattle.nesl_syntax_tree.specs.Views.{tree_of, pattern_tree, type_tree, member_tree, signature_tree}
use Rattle.nesl_syntax_tree.specs.Parts.{SeesType, SeesPattern}
use Rattle.nesl_syntax.specs.Reading.{Targets, Heads, members_in}
use Rattle.nesl_lex.specs.Tokens.{Placed}

-- what a call returned means this; or there is nothing to return, and the result says so; or memory ran out
abbrev pub Given : {A B : Type 0} → (A → B → Type 0) → Result A ParseFault → Option B → Type 0
Given sees (Ok a) (Some b) = sees a b
Given sees (Ok a) None = ⊥
Given sees (Err Syntax) b = b ≡ None
Given sees (Err Nested) b = ⊥
Given sees (Err Memory) b = Unit {0}

abbrev pub SeesMember : Member → MemberTree → Type 0
SeesMember m t = member_tree m ≡ t

abbrev pub SeesMembers : List Member → List MemberTree → Type 0
SeesMembers ms ts = map member_tree ms ≡ ts

abbrev pub behind_members : List MemberTree → List MemberTree → List MemberTree
behind_members ms ns = ms ++ ns

-- with these tokens to come, all are read as these members and those to come
pub record Listing (ms : List Member) (rest all : List Placed) : Type 0 where
  pub same : members_in all ≡ option_map (behind_members (map member_tree ms)) (members_in rest)

abbrev pub SeesTarget : Target → Targets → Type 0
SeesTarget p r = SeesType p.to r.0 × SeesMembers p.members.items r.1

abbrev pub SeesSignature : SignaturePart → SignatureTree → Type 0
SeesSignature (signatures.Built s) t = (signature_tree s.value ≡ t) × (signature_height (Some t) ≤ 100)
SeesSignature signatures.High t = 100 < signature_height (Some t)

abbrev pub SeesOptional : Option SignaturePart → Option SignatureTree → Type 0
SeesOptional (Some p) (Some t) = SeesSignature p t
SeesOptional None None = Unit {0}
SeesOptional _ _ = ⊥

abbrev pub SeesHead : Head → Heads → Type 0
SeesHead h p = SeesPattern h.pattern p.0 × SeesOptional h.signature p.1

-- what a call returned is this expression, or there is none and the result says so, or it is too high,
-- or memory ran out
abbrev pub GivesExp : Result (Box Exp) ParseFault → Option Tree → Type 0
GivesExp (Ok e) (Some x) = (tree_of e.value ≡ x) × (height x ≤ 100)
GivesExp (Ok e) None = ⊥
GivesExp (Err Syntax) x = x ≡ None
GivesExp (Err Nested) (Some x) = 100 < height x
GivesExp (Err Nested) None = ⊥
GivesExp (Err Memory) x = Unit {0}

-- what a line means whose parts are on the heap
abbrev pub boxed_signature : Box Signature → SignatureTree
boxed_signature s = signature_tree s.value

abbrev pub line_tree : Line → FormTree
line_tree lines.Nothing = trees.nothing
line_tree (lines.Fun x p s e) =
    trees.function x.items (pattern_tree p.value) (option_map boxed_signature s) (tree_of e.value)
line_tree (lines.Datatype x a) = trees.datatype x.items (type_tree a.value)
line_tree (lines.Bind x e) = trees.bind x.items (tree_of e.value)
line_tree (lines.Eval e) = trees.evaluate (tree_of e.value)
line_tree lines.ShowNames = trees.show_names
line_tree lines.ShowBudget = trees.show_budget
line_tree (lines.ShowType e) = trees.show_type (tree_of e.value)

-- the same of a line
abbrev pub GivesLine : Result Line ParseFault → Option FormTree → Type 0
GivesLine (Ok f) (Some l) = (line_tree f ≡ l) × (form_height l ≤ 100)
GivesLine (Ok f) None = ⊥
GivesLine (Err Syntax) l = l ≡ None
GivesLine (Err Nested) (Some l) = 100 < form_height l
GivesLine (Err Nested) None = ⊥
GivesLine (Err Memory) l = Unit {0}

-- the words of the commands that end in no ;
abbrev pub IsCommand : List ℕ → FormTree → Type 0
IsCommand x show_names = x ≡ codes "names"
IsCommand x show_budget = x ≡ codes "budget"
IsCommand x _ = ⊥
