-- Trees without where they lie in memory.
use Rattle.std.specs.Prelude.{ℕ, ◌+◌, max, Bool, List, Option, Some, None}
use Rattle.nesl_lex.specs.declared.token.Span.{Span}
use Rattle.nesl_syntax_tree.specs.declared.tree.Operator.{Operator}
use Rattle.nesl_syntax_tree.specs.declared.tree.Prefix.{Prefix}
use Rattle.nesl_syntax_tree.specs.declared.tree.Class.{Class}

-- a type as it is written, with its span; a name has its token's span besides
mutual
  pub data TypeTree : Type 0 where
    written : Span → TypeShape → TypeTree

  pub data TypeShape : Type 0 where
    int : TypeShape
    bool : TypeShape
    char : TypeShape
    named : (name : List ℕ) (token : Span) → TypeShape
    sequence_type : (element : TypeTree) → TypeShape
    pair_type : (left right : TypeTree) → TypeShape

-- a pattern, with its span
mutual
  pub data PatternTree : Type 0 where
    pattern : Span → PatternShape → PatternTree

  pub data PatternShape : Type 0 where
    name_pattern : (name : List ℕ) → PatternShape
    pair_pattern : (left right : PatternTree) → PatternShape
    record_pattern : (name : List ℕ) (part : PatternTree) → PatternShape

-- an expression, with its span
mutual
  pub data Tree : Type 0 where
    node : Span → Shape → Tree

  pub data Shape : Type 0 where
    number : (value : ℕ) → Shape
    truth : (value : Bool) → Shape
    character : (code : ℕ) → Shape
    text : (bytes : List ℕ) → Shape
    variable : (name : List ℕ) → Shape
    call : (name : List ℕ) (argument : Tree) → Shape
    pair : (left right : Tree) → Shape
    prefix_of : (operator : Prefix) (operand : Tree) → Shape
    infix_of : (operator : Operator) (left right : Tree) → Shape
    index : (sequence index : Tree) → Shape
    choice : (test yes no : Tree) → Shape
    sequence : (elements : Trees) → Shape
    empty : (of : TypeTree) → Shape
    range : (from to : Tree) → Shape
    strided_range : (from to stride : Tree) → Shape
    let_in : (binders : Binders) (body : Tree) → Shape
    each : (body : Tree) (binders : Binders) → Shape
    filtered_each : (body : Tree) (binders : Binders) (filter : Tree) → Shape
    element : Shape

  pub data Trees : Type 0 where
    none : Trees
    more : (first : Tree) (rest : Trees) → Trees

  -- patterns, each with what it is bound to
  pub data Binders : Type 0 where
    no_binders : Binders
    binder : (pattern : PatternTree) (value : Tree) (rest : Binders) → Binders

abbrev pub span_of : Tree → Span
span_of (node s k) = s

abbrev pub type_span : TypeTree → Span
type_span (written s k) = s

abbrev pub pattern_span : PatternTree → Span
pattern_span (pattern s k) = s

-- the same node, with this span
abbrev pub tree_on : Span → Tree → Tree
tree_on s (node t k) = node s k

abbrev pub type_on : Span → TypeTree → TypeTree
type_on s (written t k) = written s k

abbrev pub pattern_on : Span → PatternTree → PatternTree
pattern_on s (pattern t k) = pattern s k

-- one more at the end
abbrev pub with_last : Trees → Tree → Trees
with_last none x = more x none
with_last (more t ts) x = more t (with_last ts x)

abbrev pub with_last_binder : Binders → PatternTree → Tree → Binders
with_last_binder no_binders p e = binder p e no_binders
with_last_binder (binder q d bs) p e = binder q d (with_last_binder bs p e)

-- a leaf is 1, any other node 1 plus the greatest of its parts
abbrev mutual
  pub type_height : TypeTree → ℕ
  type_height (written s k) = type_height_of k

  pub type_height_of : TypeShape → ℕ
  type_height_of int = 1
  type_height_of bool = 1
  type_height_of char = 1
  type_height_of (named x s) = 1
  type_height_of (sequence_type a) = type_height a + 1
  type_height_of (pair_type a b) = max (type_height a) (type_height b) + 1

abbrev mutual
  pub pattern_height : PatternTree → ℕ
  pattern_height (pattern s k) = pattern_height_of k

  pub pattern_height_of : PatternShape → ℕ
  pattern_height_of (name_pattern x) = 1
  pattern_height_of (pair_pattern a b) = max (pattern_height a) (pattern_height b) + 1
  pattern_height_of (record_pattern x a) = pattern_height a + 1

-- patterns and written types are parts of their node; a text and the body of an apply-to-each that has none are leaves
abbrev mutual
  pub height : Tree → ℕ
  height (node s k) = height_of k

  pub height_of : Shape → ℕ
  height_of (number n) = 1
  height_of (truth b) = 1
  height_of (character c) = 1
  height_of (text bytes) = 1
  height_of (variable x) = 1
  height_of (call f a) = height a + 1
  height_of (pair a b) = max (height a) (height b) + 1
  height_of (prefix_of o a) = height a + 1
  height_of (infix_of o a b) = max (height a) (height b) + 1
  height_of (index a b) = max (height a) (height b) + 1
  height_of (choice a b c) = max (height a) (max (height b) (height c)) + 1
  height_of (sequence ts) = greatest_height ts + 1
  height_of (empty t) = type_height t + 1
  height_of (range a b) = max (height a) (height b) + 1
  height_of (strided_range a b c) = max (height a) (max (height b) (height c)) + 1
  height_of (let_in bs e) = max (greatest_binder_height bs) (height e) + 1
  height_of (each e bs) = max (height e) (greatest_binder_height bs) + 1
  height_of (filtered_each e bs f) = max (height e) (max (greatest_binder_height bs) (height f)) + 1
  height_of element = 1

  pub greatest_height : Trees → ℕ
  greatest_height none = 0
  greatest_height (more t ts) = max (height t) (greatest_height ts)

  pub greatest_binder_height : Binders → ℕ
  greatest_binder_height no_binders = 0
  greatest_binder_height (binder p t bs) = max (pattern_height p) (max (height t) (greatest_binder_height bs))

-- a name and the class that it is put in
pub record MemberTree : Type 0 where
  pub name : List ℕ
  pub class : Class

pub record SignatureTree : Type 0 where
  pub from : TypeTree
  pub to : TypeTree
  pub members : List MemberTree

-- a line
pub data FormTree : Type 0 where
  nothing : FormTree
  function : (name : List ℕ) (parameter : PatternTree) (signature : Option SignatureTree) (body : Tree) → FormTree
  datatype : (name : List ℕ) (content : TypeTree) → FormTree
  bind : (name : List ℕ) (value : Tree) → FormTree
  evaluate : (value : Tree) → FormTree
  show_names : FormTree
  show_budget : FormTree
  show_type : (value : Tree) → FormTree

abbrev pub signature_height : Option SignatureTree → ℕ
signature_height (Some s) = max (type_height s.from) (type_height s.to)
signature_height None = 0

-- the greatest height of a line's body, pattern and types, each measured alone
abbrev pub form_height : FormTree → ℕ
form_height nothing = 0
form_height (function x p s e) = max (pattern_height p) (max (signature_height s) (height e))
form_height (datatype x a) = type_height a
form_height (bind x e) = height e
form_height (evaluate e) = height e
form_height show_names = 0
form_height show_budget = 0
form_height (show_type e) = height e
