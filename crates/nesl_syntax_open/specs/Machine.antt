-- Reading by a list of what is open: brackets, operators with their left sides, parts of a choice, binders.
use Rattle.std.specs.Prelude.{ℕ, suc, Bool, true, false, nat_le, if◌then◌else◌, List, [], ◌∷◌, Option, Some, None}
use Rattle.std.specs.Prelude.{option_and_then}
use Rattle.nesl_lex.specs.Tokens.{Placed, Lexeme, reserved, symbol}
use Rattle.nesl_lex.specs.Tokens as tokens
use Rattle.nesl_lex.specs.declared.token.Span.{Span}
use Rattle.nesl_lex.specs.declared.token.Word.TheVariants as word
use Rattle.nesl_lex.specs.declared.token.Sign.TheVariants as sign
use Rattle.nesl_syntax_tree.specs.declared.tree.Operator.{Operator}
use Rattle.nesl_syntax_tree.specs.declared.tree.Prefix.{Prefix}
use Rattle.nesl_syntax_tree.specs.declared.tree.Prefix.TheVariants as prefix
use Rattle.nesl_syntax_open.specs.declared.mark.Mark.{Mark}
use Rattle.nesl_syntax_open.specs.declared.mark.Mark.TheVariants as mark
use Rattle.nesl_syntax_open.specs.declared.mark.Follow.{Follow}
use Rattle.nesl_syntax_open.specs.declared.mark.Follow.TheVariants as follow
use Rattle.nesl_syntax_tree.specs.Trees.{Tree, Shape, Trees, Binders, PatternTree, TypeTree, node, written, span_of}
use Rattle.nesl_syntax_tree.specs.Trees.{type_span, tree_on, type_on, with_last, with_last_binder, none, no_binders}
use Rattle.nesl_syntax_tree.specs.Trees.{binder}
use Rattle.nesl_syntax_tree.specs.Trees as trees
use Rattle.nesl_syntax_tree.specs.Patterns.{pattern_in}
use Rattle.nesl_syntax_open.specs.Marks.{follow_of}
use Rattle.nesl_syntax_tree.specs.Made.{body_or, type_pair}
use Rattle.nesl_syntax_tree.specs.Grammar.{level_of, spanning}

-- what has binders: a let, or an apply-to-each with its body, if it has one
pub data Group : Type 0 where
  let_group : Span → Group
  each_group : Span → Option Tree → Group

-- what is open and must be closed by a token
pub data Opening : Type 0 where
  round : Span → Opening
  call : List ℕ → Span → Opening
  index_of : Tree → Opening
  test : Span → Opening
  branch : Span → Tree → Opening
  list : Span → Trees → Opening
  range_from : Span → Tree → Opening
  range_to : Span → Tree → Tree → Opening
  brace : Span → Opening
  binders : Group → Binders → Opening
  value : Group → Binders → PatternTree → Opening
  filter : Span → Option Tree → Binders → Opening

-- the same of a type
pub data TypeOpening : Type 0 where
  empty_at : Span → TypeOpening
  type_list : Span → TypeOpening
  type_round : Span → TypeOpening
  type_comma : TypeTree → TypeOpening

-- what is open: it waits for what comes after it
pub data Waiting : Type 0 where
  open_at : Opening → Waiting
  comma_behind : Tree → Waiting
  else_behind : Span → Tree → Tree → Waiting
  body_of : Span → Binders → Waiting
  prefix_at : Prefix → Span → Waiting
  sign_behind : Operator → Tree → Waiting
  type_at : TypeOpening → Waiting

-- the level of what may come after it; a pattern comes where an atom does
abbrev pub opening_wants : Opening → ℕ
opening_wants (round s) = 1
opening_wants (call x s) = 1
opening_wants (binders g bs) = 10
opening_wants _ = 2

abbrev pub wanted_by : Waiting → ℕ
wanted_by (open_at o) = opening_wants o
wanted_by (comma_behind a) = 1
wanted_by (else_behind s a b) = 2
wanted_by (body_of s bs) = 2
wanted_by (prefix_at o s) = 8
wanted_by (sign_behind o a) = suc (level_of o)
wanted_by (type_at o) = 0

abbrev pub group_level : Group → ℕ
group_level (let_group s) = 2
group_level (each_group s b) = 10

-- the level of what it begins
abbrev pub opening_begins : Opening → ℕ
opening_begins (index_of a) = 9
opening_begins (test s) = 2
opening_begins (branch s a) = 2
opening_begins (binders g bs) = group_level g
opening_begins (value g bs p) = group_level g
opening_begins _ = 10

abbrev pub begun_by : Waiting → ℕ
begun_by (open_at o) = opening_begins o
begun_by (comma_behind a) = 1
begun_by (else_behind s a b) = 2
begun_by (body_of s bs) = 2
begun_by (prefix_at o s) = 8
begun_by (sign_behind o a) = level_of o
begun_by (type_at o) = 10

-- the level of what it is once its last part is there, or 0 where more tokens must follow that part
abbrev pub rank : Waiting → ℕ
rank (open_at o) = 0
rank (comma_behind a) = 1
rank (else_behind s a b) = 2
rank (body_of s bs) = 2
rank (prefix_at o s) = 8
rank (sign_behind o a) = level_of o
rank (type_at o) = 0

-- the tree of it and its last part
abbrev pub completed : Waiting → Tree → Tree
completed (open_at o) e = e
completed (comma_behind a) e = node (spanning (span_of a) (span_of e)) (trees.pair a e)
completed (else_behind s a b) e = node (spanning s (span_of e)) (trees.choice a b e)
completed (body_of s bs) e = node (spanning s (span_of e)) (trees.let_in bs e)
completed (prefix_at o s) e = node (spanning s (span_of e)) (trees.prefix_of o e)
completed (sign_behind o a) e = node (spanning (span_of a) (span_of e)) (trees.infix_of o a e)
completed (type_at o) e = e

-- the level of what may come at this place; the newest that waits is first
abbrev pub wanted : List Waiting → ℕ
wanted [] = 2
wanted (w ∷ ws) = wanted_by w

-- what is complete at this level is put together
abbrev pub folded : ℕ → List Waiting → Tree → List Waiting × Tree
folded n [] e = ([], e)
folded n (w ∷ ws) e = if nat_le n (rank w) then folded n ws (completed w e) else (w ∷ ws, e)

-- an expression is to come, or is before this place; then it may be a name with nothing after it;
-- the same of a type
pub data Mode : Type 0 where
  before : Mode
  behind : Bool → Tree → Mode
  typing : Mode
  typed : TypeTree → Mode

abbrev pub State : Type 0
State = List Waiting × Mode

abbrev pub opened : Waiting → List Waiting → Option State
opened w ws = if nat_le (wanted ws) (begun_by w) then Some (w ∷ ws, before) else None

abbrev pub called : List Waiting → Tree → Option State
called ws (node s (trees.variable x)) = opened (open_at (call x s)) ws
called ws _ = None

-- what an opening becomes: another opening, or its tree
pub data Turn : Type 0 where
  becomes : Waiting → Turn
  ends : Tree → Turn

abbrev pub bound : Group → Binders → Option PatternTree → Option Turn
bound g bs (Some p) = Some (becomes (open_at (value g bs p)))
bound g bs None = None

-- an opening with an expression and this token at t after it
abbrev pub turned : Mark → Span → Opening → Tree → Option Turn
turned mark.CloseParenthesis t (round s) e = Some (ends (tree_on (spanning s t) e))
turned mark.CloseParenthesis t (call x s) e = Some (ends (node (spanning s t) (trees.call x e)))
turned mark.CloseBracket t (index_of a) e = Some (ends (node (spanning (span_of a) t) (trees.index a e)))
turned mark.Then t (test s) e = Some (becomes (open_at (branch s e)))
turned mark.Else t (branch s a) e = Some (becomes (else_behind s a e))
turned mark.CloseBracket t (list s xs) e = Some (ends (node (spanning s t) (trees.sequence (with_last xs e))))
turned mark.Colon t (list s none) e = Some (becomes (open_at (range_from s e)))
turned mark.Colon t (range_from s a) e = Some (becomes (open_at (range_to s a e)))
turned mark.CloseBracket t (range_from s a) e = Some (ends (node (spanning s t) (trees.range a e)))
turned mark.CloseBracket t (range_to s a b) e = Some (ends (node (spanning s t) (trees.strided_range a b e)))
turned mark.Colon t (brace s) e = Some (becomes (open_at (binders (each_group s (Some e)) no_binders)))
turned mark.In t (brace s) e = bound (each_group s None) no_binders (pattern_in e)
turned mark.In t (binders (each_group s b) bs) e = bound (each_group s b) bs (pattern_in e)
turned mark.Equal t (binders (let_group s) bs) e = bound (let_group s) bs (pattern_in e)
turned mark.Semicolon t (value g bs p) e = Some (becomes (open_at (binders g (with_last_binder bs p e))))
turned mark.In t (value (let_group s) bs p) e = Some (becomes (body_of s (with_last_binder bs p e)))
turned mark.Bar t (value (each_group s b) bs p) e = Some (becomes (open_at (filter s b (with_last_binder bs p e))))
turned mark.CloseBrace t (value (each_group s b) bs p) e =
    Some (ends (node (spanning s t) (trees.each (body_or b (with_last_binder bs p e)) (with_last_binder bs p e))))
turned mark.CloseBrace t (filter s b bs) e = Some (ends (node (spanning s t) (trees.filtered_each (body_or b bs) bs e)))
turned _ t o e = None

abbrev pub taken_up : List Waiting → Option Turn → Option State
taken_up ws (Some (becomes w)) = Some (w ∷ ws, before)
taken_up ws (Some (ends e)) = Some (ws, behind false e)
taken_up ws None = None

abbrev pub marked : Mark → Span → List Waiting → Tree → Option State
marked m t (open_at o ∷ ws) e = taken_up ws (turned m t o e)
marked m t _ e = None

-- after a comma
abbrev pub separated : List Waiting → Tree → Option State
separated (open_at (list s xs) ∷ ws) e = Some (open_at (list s (with_last xs e)) ∷ ws, before)
separated ws e = opened (comma_behind e) ws

-- the same of the newest alone
abbrev pub listed : Opening → Tree → Option Waiting
listed (list s xs) e = Some (open_at (list s (with_last xs e)))
listed _ e = None

-- a ) ends what has commas
abbrev pub mark_level : Mark → ℕ
mark_level mark.CloseParenthesis = 1
mark_level _ = 2

abbrev pub on_both : {A : Type 0} → (List Waiting → Tree → A) → List Waiting × Tree → A
on_both f r = f r.0 r.1

abbrev pub joined : Operator → List Waiting → Tree → Option State
joined o ws e = on_both (λ vs x. opened (sign_behind o x) vs) (folded (level_of o) ws e)

-- after an expression
abbrev pub followed : Follow → List Waiting → Bool → Tree → Span → Option State
followed follow.Call ws b e s = if b then called ws e else None
followed follow.Index ws b e s = opened (open_at (index_of e)) ws
followed follow.Comma ws b e s = on_both separated (folded 2 ws e)
followed (follow.Operator o) ws b e s = joined o ws e
followed (follow.Mark m) ws b e s = on_both (marked m s) (folded (mark_level m) ws e)
followed follow.Nothing ws b e s = None

abbrev pub with_newest : Mode → List Waiting → Option Waiting → Option State
with_newest m ws (Some w) = Some (w ∷ ws, m)
with_newest m ws None = None

-- in after the ; of a let
abbrev pub let_body : Opening → Option Waiting
let_body (binders (let_group s) (binder p e bs)) = Some (body_of s (binder p e bs))
let_body _ = None

abbrev pub let_closed : List Waiting → Option State
let_closed (open_at o ∷ ws) = with_newest before ws (let_body o)
let_closed _ = None

-- ] directly after [
abbrev pub empty_opening : Opening → Option Waiting
empty_opening (list s none) = Some (type_at (empty_at s))
empty_opening _ = None

abbrev pub emptied : List Waiting → Option State
emptied (open_at o ∷ ws) = with_newest typing ws (empty_opening o)
emptied _ = None

-- where an expression is to come
abbrev pub begun_with : List Waiting → Span → Lexeme → Option State
begun_with ws s (tokens.number n) = Some (ws, behind false (node s (trees.number n)))
begun_with ws s (tokens.truth b) = Some (ws, behind false (node s (trees.truth b)))
begun_with ws s (tokens.character c) = Some (ws, behind false (node s (trees.character c)))
begun_with ws s (tokens.quoted bytes) = Some (ws, behind false (node s (trees.text bytes)))
begun_with ws s (tokens.name x) = Some (ws, behind true (node s (trees.variable x)))
begun_with ws s (reserved word.If) = opened (open_at (test s)) ws
begun_with ws s (reserved word.Let) = opened (open_at (binders (let_group s) no_binders)) ws
begun_with ws s (reserved word.In) = let_closed ws
begun_with ws s (symbol sign.OpenParenthesis) = opened (open_at (round s)) ws
begun_with ws s (symbol sign.OpenBracket) = opened (open_at (list s none)) ws
begun_with ws s (symbol sign.OpenBrace) = opened (open_at (brace s)) ws
begun_with ws s (symbol sign.CloseBracket) = emptied ws
begun_with ws s (symbol sign.Hash) = opened (prefix_at prefix.Length s) ws
begun_with ws s (symbol sign.Minus) = opened (prefix_at prefix.Negate s) ws
begun_with ws s _ = None

-- where an empty sequence waits for its type
abbrev pub empty_of : Waiting → Option Span
empty_of (type_at (empty_at s)) = Some s
empty_of _ = None

abbrev pub empty_newest : List Waiting → Option Span
empty_newest [] = None
empty_newest (w ∷ ws) = empty_of w

-- a type that has come
abbrev pub type_done : List Waiting → TypeTree → State
type_done (type_at (empty_at s) ∷ ws) a = (ws, behind false (node (spanning s (type_span a)) (trees.empty a)))
type_done ws a = (ws, typed a)

-- where a type is to come
abbrev pub typed_with : List Waiting → Span → Lexeme → Option State
typed_with ws s (reserved word.Int) = Some (type_done ws (written s trees.int))
typed_with ws s (reserved word.Bool) = Some (type_done ws (written s trees.bool))
typed_with ws s (reserved word.Char) = Some (type_done ws (written s trees.char))
typed_with ws s (tokens.name x) = Some (type_done ws (written s (trees.named x s)))
typed_with ws s (symbol sign.OpenBracket) = Some (type_at (type_list s) ∷ ws, typing)
typed_with ws s (symbol sign.OpenParenthesis) = Some (type_at (type_round s) ∷ ws, typing)
typed_with ws s _ = None

-- where a comma may come after a type
abbrev pub has_commas : Waiting → Bool
has_commas (type_at (type_round s)) = true
has_commas (type_at (type_comma b)) = true
has_commas _ = false

abbrev pub newest_has_commas : List Waiting → Bool
newest_has_commas [] = false
newest_has_commas (w ∷ ws) = has_commas w

abbrev pub type_separated : List Waiting → TypeTree → Option State
type_separated ws a = if newest_has_commas ws then Some (type_at (type_comma a) ∷ ws, typing) else None

-- a type in brackets
abbrev pub bracket_type : TypeOpening → Span → TypeTree → Option TypeTree
bracket_type (type_list s) t a = Some (written (spanning s t) (trees.sequence_type a))
bracket_type _ t a = None

abbrev pub done_with : List Waiting → Option TypeTree → Option State
done_with ws (Some a) = Some (type_done ws a)
done_with ws None = None

abbrev pub type_bracketed : List Waiting → Span → TypeTree → Option State
type_bracketed (type_at o ∷ ws) t a = done_with ws (bracket_type o t a)
type_bracketed _ t a = None

abbrev pub type_closed : List Waiting → Span → TypeTree → Option State
type_closed (type_at (type_comma b) ∷ ws) t a = type_closed ws t (type_pair b a)
type_closed (type_at (type_round s) ∷ ws) t a = Some (type_done ws (type_on (spanning s t) a))
type_closed _ t a = None

-- after a type
abbrev pub typed_on : List Waiting → TypeTree → Span → Lexeme → Option State
typed_on ws a s (symbol sign.Comma) = type_separated ws a
typed_on ws a s (symbol sign.CloseBracket) = type_bracketed ws s a
typed_on ws a s (symbol sign.CloseParenthesis) = type_closed ws s a
typed_on ws a s _ = None

abbrev pub step : List Waiting → Mode → Placed → Option State
step ws before t = begun_with ws t.span t.lexeme
step ws (behind b e) t = followed (follow_of t.lexeme) ws b e t.span
step ws typing t = typed_with ws t.span t.lexeme
step ws (typed a) t = typed_on ws a t.span t.lexeme

abbrev pub run : State → List Placed → Option State
run q [] = Some q
run q (t ∷ ts) = option_and_then (λ p. run p ts) (step q.0 q.1 t)

abbrev pub alone : List Waiting → Tree → Option Tree
alone [] e = Some e
alone (w ∷ ws) e = None

-- the expression that has come, where nothing waits any more
abbrev pub tree_left_in : List Waiting → Mode → Option Tree
tree_left_in ws (behind b e) = on_both alone (folded 2 ws e)
tree_left_in ws _ = None

abbrev pub tree_left : State → Option Tree
tree_left q = tree_left_in q.0 q.1

-- the expression that these tokens are
abbrev pub expression : List Placed → Option Tree
expression ts = option_and_then tree_left (run ([], before) ts)

abbrev pub type_alone : List Waiting → TypeTree → Option TypeTree
type_alone [] a = Some a
type_alone (w ∷ ws) a = None

abbrev pub type_left_in : List Waiting → Mode → Option TypeTree
type_left_in ws (typed a) = type_alone ws a
type_left_in ws _ = None

abbrev pub type_left : State → Option TypeTree
type_left q = type_left_in q.0 q.1

-- the type that these tokens are
abbrev pub written_type : List Placed → Option TypeTree
written_type ts = option_and_then type_left (run ([], typing) ts)
