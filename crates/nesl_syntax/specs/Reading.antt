-- A line, read by its first tokens and cut at signs that are in no part before them.
use Rattle.std.specs.Prelude.{ℕ, Bool, true, false, ◌&&◌, if◌then◌else◌, nat_eq, List, [], ◌∷◌, codes, Option, Some}
use Rattle.std.specs.Prelude.{None, option_map, option_and_then}
use Rattle.nesl_lex.specs.Tokens.{Placed, Lexeme, symbol, reserved}
use Rattle.nesl_lex.specs.Tokens as tokens
use Rattle.nesl_lex.specs.declared.token.Word.TheVariants as word
use Rattle.nesl_lex.specs.declared.token.Sign.TheVariants as sign
use Rattle.nesl_syntax.specs.declared.cut.Divider.{Divider}
use Rattle.nesl_syntax.specs.declared.cut.Divider.TheVariants as divider
use Rattle.nesl_syntax.specs.declared.signature.MemberEnd.{MemberEnd}
use Rattle.nesl_syntax.specs.declared.signature.MemberEnd.TheVariants as end
use Rattle.nesl_syntax_tree.specs.declared.tree.Class.{Class}
use Rattle.nesl_syntax_tree.specs.declared.tree.Class.TheVariants as class
use Rattle.nesl_syntax_tree.specs.Trees.{Tree, PatternTree, TypeTree, MemberTree, SignatureTree, FormTree, nothing}
use Rattle.nesl_syntax_tree.specs.Trees.{function}
use Rattle.nesl_syntax_tree.specs.Trees.{datatype, bind, evaluate, show_names, show_budget, show_type}
use Rattle.nesl_syntax_tree.specs.Patterns.{pattern_in}
use Rattle.nesl_syntax_open.specs.Machine.{expression, written_type}

-- the sign of a divider
abbrev pub divides : Divider → Lexeme → Bool
divides divider.Equal (symbol sign.Equal) = true
divides divider.Colon (symbol sign.Colon) = true
divides divider.RightArrow (symbol sign.RightArrow) = true
divides divider.DoubleColon (symbol sign.DoubleColon) = true
divides _ _ = false

abbrev pub Halves : Type 0
Halves = List Placed × List Placed

abbrev pub and_front : Placed → Halves → Halves
and_front t c = (t ∷ c.0, c.1)

-- the tokens before the first divider, and those after it
abbrev pub cut : Divider → List Placed → Option Halves
cut d [] = None
cut d (t ∷ ts) = if divides d t.lexeme then Some ([], ts) else option_map (and_front t) (cut d ts)

-- where there are both
abbrev pub with_both : {A B C : Type 0} → (A → B → C) → Option A → Option B → Option C
with_both f (Some a) (Some b) = Some (f a b)
with_both f (Some a) None = None
with_both f None b = None

abbrev pub pattern_read : List Placed → Option PatternTree
pattern_read ts = option_and_then pattern_in (expression ts)

abbrev pub is_text : List ℕ → List ℕ → Bool
is_text [] [] = true
is_text (x ∷ xs) (y ∷ ys) = nat_eq x y && is_text xs ys
is_text _ _ = false

abbrev pub class_of : List ℕ → Option Class
class_of x =
    if is_text x (codes "any") then Some class.Any
    else if is_text x (codes "ordinal") then Some class.Ordinal
    else if is_text x (codes "number") then Some class.Number
    else if is_text x (codes "logical") then Some class.Logical
    else None

abbrev pub member_with : List ℕ → Class → MemberTree
member_with x k = record { name = x; class = k }

-- a name's token and a class's
abbrev pub member_named : Lexeme → Lexeme → Option MemberTree
member_named (tokens.name x) (tokens.name y) = option_map (member_with x) (class_of y)
member_named _ _ = None

-- and in between them
abbrev pub member_of : Lexeme → Lexeme → Lexeme → Option MemberTree
member_of n (reserved word.In) k = member_named n k
member_of n _ k = None

abbrev pub one_of : MemberTree → List MemberTree
one_of m = m ∷ []

abbrev pub more_of : MemberTree → List MemberTree → List MemberTree
more_of m ms = m ∷ ms

-- what comes after a member: a ; or a ) at the end
abbrev pub behind_of : Lexeme → List Placed → MemberEnd
behind_of (symbol sign.CloseParenthesis) [] = end.Close
behind_of (symbol sign.Semicolon) ts = end.Semicolon
behind_of _ ts = end.Other

-- a member, with this after it
abbrev pub members_with : MemberEnd → Option MemberTree → Option (List MemberTree) → Option (List MemberTree)
members_with end.Close m ms = option_map one_of m
members_with end.Semicolon m ms = with_both more_of m ms
members_with end.Other m ms = None

-- members, and a ) after them
abbrev pub members_in : List Placed → Option (List MemberTree)
members_in (n ∷ i ∷ k ∷ e ∷ ts) =
    members_with (behind_of e.lexeme ts) (member_of n.lexeme i.lexeme k.lexeme) (members_in ts)
members_in _ = None

abbrev pub bracketed_with : Lexeme → List Placed → Option (List MemberTree)
bracketed_with (symbol sign.OpenParenthesis) ts = members_in ts
bracketed_with _ ts = None

abbrev pub bracketed_in : List Placed → Option (List MemberTree)
bracketed_in [] = None
bracketed_in (t ∷ ts) = bracketed_with t.lexeme ts

-- a type, and the members after it
abbrev pub Targets : Type 0
Targets = TypeTree × List MemberTree

abbrev pub target : TypeTree → List MemberTree → Targets
target a ms = (a, ms)

abbrev pub bare_target : TypeTree → Targets
bare_target a = (a, [])

abbrev pub target_with : List Placed → Option Halves → Option Targets
target_with ts None = option_map bare_target (written_type ts)
target_with ts (Some c) = with_both target (written_type c.0) (bracketed_in c.1)

abbrev pub target_in : List Placed → Option Targets
target_in ts = target_with ts (cut divider.DoubleColon ts)

abbrev pub signature_of : TypeTree → Targets → SignatureTree
signature_of a r = record { from = a; to = r.0; members = r.1 }

abbrev pub signature_with : Option Halves → Option SignatureTree
signature_with None = None
signature_with (Some c) = with_both signature_of (written_type c.0) (target_in c.1)

abbrev pub signature_in : List Placed → Option SignatureTree
signature_in ts = signature_with (cut divider.RightArrow ts)

-- a parameter, and its signature, if it has one
abbrev pub Heads : Type 0
Heads = PatternTree × Option SignatureTree

abbrev pub head : PatternTree → SignatureTree → Heads
head p s = (p, Some s)

abbrev pub bare_head : PatternTree → Heads
bare_head p = (p, None)

abbrev pub head_with : List Placed → Option Halves → Option Heads
head_with ts None = option_map bare_head (pattern_read ts)
head_with ts (Some c) = with_both head (pattern_read c.0) (signature_in c.1)

abbrev pub head_in : List Placed → Option Heads
head_in ts = head_with ts (cut divider.Colon ts)

abbrev pub function_of : List ℕ → Heads → Tree → FormTree
function_of x h e = function x h.0 h.1 e

abbrev pub function_with : List ℕ → Option Halves → Option FormTree
function_with x None = None
function_with x (Some c) = with_both (function_of x) (head_in c.0) (expression c.1)

abbrev pub function_named : Lexeme → List Placed → Option FormTree
function_named (tokens.name x) ts = function_with x (cut divider.Equal ts)
function_named _ ts = None

-- after the word function, and after the word datatype
abbrev pub function_in : List Placed → Option FormTree
function_in [] = None
function_in (t ∷ ts) = function_named t.lexeme ts

abbrev pub datatype_named : Lexeme → List Placed → Option FormTree
datatype_named (tokens.name x) ts = option_map (datatype x) (written_type ts)
datatype_named _ ts = None

abbrev pub datatype_in : List Placed → Option FormTree
datatype_in [] = None
datatype_in (t ∷ ts) = datatype_named t.lexeme ts

-- after a : at the front
abbrev pub typed_named : Lexeme → List Placed → Option FormTree
typed_named (tokens.name x) ts = if is_text x (codes "type") then option_map show_type (expression ts) else None
typed_named _ ts = None

abbrev pub typed_in : List Placed → Option FormTree
typed_in [] = None
typed_in (t ∷ ts) = typed_named t.lexeme ts

-- a name, this token and these; or an expression
abbrev pub bound_with : List ℕ → Lexeme → List Placed → List Placed → Option FormTree
bound_with x (symbol sign.Equal) all ts = option_map (bind x) (expression ts)
bound_with x _ all ts = option_map evaluate (expression all)

abbrev pub bound_in : List ℕ → List Placed → List Placed → Option FormTree
bound_in x all [] = option_map evaluate (expression all)
bound_in x all (t ∷ ts) = bound_with x t.lexeme all ts

abbrev pub begun_line : Lexeme → List Placed → List Placed → Option FormTree
begun_line (reserved word.Function) all ts = function_in ts
begun_line (reserved word.Datatype) all ts = datatype_in ts
begun_line (symbol sign.Colon) all ts = typed_in ts
begun_line (tokens.name x) all ts = bound_in x all ts
begun_line _ all ts = option_map evaluate (expression all)

-- a line without its last ;
abbrev pub line_in : List Placed → Option FormTree
line_in [] = option_map evaluate (expression [])
line_in (t ∷ ts) = begun_line t.lexeme (t ∷ ts) ts

-- the lines that end in no ;
abbrev pub command_of : List ℕ → Option FormTree
command_of x =
    if is_text x (codes "names") then Some show_names else if is_text x (codes "budget") then Some show_budget else None

abbrev pub command_with : Lexeme → Lexeme → Option FormTree
command_with (symbol sign.Colon) (tokens.name x) = command_of x
command_with _ _ = None

abbrev pub command_in : List Placed → Option FormTree
command_in (t ∷ u ∷ []) = command_with t.lexeme u.lexeme
command_in _ = None

abbrev pub is_semicolon : Lexeme → Bool
is_semicolon (symbol sign.Semicolon) = true
is_semicolon _ = false

abbrev pub behind_token : Placed → List Placed → List Placed
behind_token t ts = t ∷ ts

-- the tokens before a last ;
abbrev pub closed_in : List Placed → Option (List Placed)
closed_in [] = None
closed_in (t ∷ []) = if is_semicolon t.lexeme then Some [] else None
closed_in (t ∷ u ∷ ts) = option_map (behind_token t) (closed_in (u ∷ ts))

abbrev pub form_with : Option FormTree → List Placed → Option FormTree
form_with (Some l) ts = Some l
form_with None [] = Some nothing
form_with None (t ∷ ts) = option_and_then line_in (closed_in (t ∷ ts))

-- a line
abbrev pub form_in : List Placed → Option FormTree
form_in ts = form_with (command_in ts) ts
