-- What names refer to where an expression is, and which of them refer to nothing.
use Rattle.std.specs.Prelude.{ℕ, Bool, true, false, List, [], ◌∷◌, ◌++◌, Option, Some, None, ◌||◌, codes, if◌then◌else◌}
use Rattle.std.specs.Option.{is_some, option_map}
use Rattle.std.specs.List.{list_any}
use Rattle.std.specs.Str.{bytes_eq}
use Rattle.nesl_lex.specs.declared.token.Span.{Span}
use Rattle.nesl_types.specs.declared.bindings.Top.{Top}
use Rattle.nesl_types.specs.declared.bindings.Top.TheVariants as top
use Rattle.nesl_types.specs.Names.{found}
use Rattle.nesl_types_shared.specs.Term.{Term}
use Rattle.nesl_builtins.specs.declared.builtin.Builtin.{Builtin}
use Rattle.nesl_builtins.specs.FunctionTypes.{FunctionType, function_type}
use Rattle.nesl_builtins.specs.Named.{builtin_named}
use Rattle.nesl_syntax_tree.specs.Trees.{TypeTree, TypeShape, PatternTree, PatternShape, Tree, Shape, Trees, Binders}
use Rattle.nesl_syntax_tree.specs.Trees.{written, pattern, node, none, more, no_binders, binder}
use Rattle.nesl_syntax_tree.specs.Trees as trees

-- what a name before `(` refers to: the function whose body it is in, a built-in function, a function of the top
-- level with its type, or a datatype with its tag and what its records hold
pub data Referent : Type 0 where
  itself : Referent
  built_in : Builtin → Referent
  function : FunctionType → Referent
  record_of : ℕ → Term → Referent

-- what the variables of the top level are, the names before `(`, and the datatypes
pub record Names : Type 0 where
  pub variables : List ℕ → Option Term
  pub functions : List ℕ → Option Referent
  pub datatypes : List ℕ → Option (ℕ × Term)

-- what a top-level name is
abbrev pub top_in : {P : Type 0} → List (List ℕ × Top × P) → List ℕ → Option Top
top_in context x = option_map (λ b. b.0) (found x context)

abbrev pub as_variable : Option Top → Option Term
as_variable (Some (top.Variable t)) = Some t
as_variable _ = None

abbrev pub as_function : Option Top → Option Referent
as_function (Some (top.Function s)) = Some (function (function_type s))
as_function (Some (top.Datatype tag held)) = Some (record_of tag held)
as_function _ = None

abbrev pub as_datatype : Option Top → Option (ℕ × Term)
as_datatype (Some (top.Datatype tag held)) = Some (tag, held)
as_datatype _ = None

-- a built-in function, else what the name is at the top level
abbrev pub built_in_or : Option Builtin → Option Referent → Option Referent
built_in_or (Some b) r = Some (built_in b)
built_in_or None r = r

-- the name of the function whose body an expression is in, if it is in one
abbrev pub OwnName : Type 0
OwnName = Option (List ℕ)

abbrev pub is_own : OwnName → List ℕ → Bool
is_own None x = false
is_own (Some own) x = bytes_eq x own

-- in a body neither the function's own name nor `it` is a variable of the top level
abbrev pub hides : OwnName → List ℕ → Bool
hides None x = false
hides (Some own) x = bytes_eq x own || bytes_eq x (codes "it")

-- what names refer to where an expression is, by what the top level has: `variables`, and before `(` what functions and
-- datatypes it has
abbrev pub names_from :
    (List ℕ → Option Term) → (List ℕ → Option Referent) → (List ℕ → Option (ℕ × Term)) → OwnName → Names
names_from variables functions datatypes own = record {
  variables = λ x. if hides own x then None else variables x;
  functions = λ x. if is_own own x then Some itself else built_in_or (builtin_named x) (functions x);
  datatypes = datatypes;
}

module _ {P : Type 0} (context : List (List ℕ × Top × P)) where
  abbrev pub datatype_in : List ℕ → Option (ℕ × Term)
  datatype_in x = as_datatype (top_in context x)

  abbrev pub names_in : OwnName → Names
  names_in =
      names_from (λ x. as_variable (top_in context x)) (λ x. as_function (top_in context x)) datatype_in

  abbrev pub variable_in : OwnName → List ℕ → Option Term
  variable_in own = (names_in own).variables

  abbrev pub function_in : OwnName → List ℕ → Option Referent
  function_in own = (names_in own).functions

-- the span, where the name refers to nothing
abbrev pub span_unless_known : Bool → Span → List Span
span_unless_known true s = []
span_unless_known false s = s ∷ []

-- the names of a written type that are no datatypes, each where its token is
abbrev mutual
  pub unknown_types : (List ℕ → Option (ℕ × Term)) → TypeTree → List Span
  unknown_types ds (written s k) = unknown_types_in ds k

  pub unknown_types_in : (List ℕ → Option (ℕ × Term)) → TypeShape → List Span
  unknown_types_in ds (trees.named x s) = span_unless_known (is_some (ds x)) s
  unknown_types_in ds (trees.sequence_type a) = unknown_types ds a
  unknown_types_in ds (trees.pair_type a b) = unknown_types ds a ++ unknown_types ds b
  unknown_types_in ds _ = []

-- the record patterns whose names are no datatypes
abbrev mutual
  pub unknown_records : (List ℕ → Option (ℕ × Term)) → PatternTree → List Span
  unknown_records ds (pattern s k) = unknown_records_in ds s k

  pub unknown_records_in : (List ℕ → Option (ℕ × Term)) → Span → PatternShape → List Span
  unknown_records_in ds s (trees.name_pattern x) = []
  unknown_records_in ds s (trees.pair_pattern p q) = unknown_records ds p ++ unknown_records ds q
  unknown_records_in ds s (trees.record_pattern x p) = span_unless_known (is_some (ds x)) s ++ unknown_records ds p

-- the names that a pattern binds, the last first
abbrev mutual
  pub names_bound : PatternTree → List (List ℕ)
  names_bound (pattern s k) = names_bound_in k

  pub names_bound_in : PatternShape → List (List ℕ)
  names_bound_in (trees.name_pattern x) = x ∷ []
  names_bound_in (trees.pair_pattern p q) = names_bound q ++ names_bound p
  names_bound_in (trees.record_pattern x p) = names_bound p

abbrev pub all_names_bound : Binders → List (List ℕ)
all_names_bound no_binders = []
all_names_bound (binder p e bs) = all_names_bound bs ++ names_bound p

-- the nodes of an expression whose names refer to nothing, where the local names are `ls`, the newest first: in the
-- order of the text, an application before its argument, the body of an apply-to-each before its binders, a pattern
-- before its value
abbrev mutual
  pub unknown_names : Names → List (List ℕ) → Tree → List Span
  unknown_names ns ls (node s k) = unknown_in ns ls s k

  pub unknown_in : Names → List (List ℕ) → Span → Shape → List Span
  unknown_in ns ls s (trees.number n) = []
  unknown_in ns ls s (trees.truth b) = []
  unknown_in ns ls s (trees.character c) = []
  unknown_in ns ls s (trees.text bytes) = []
  unknown_in ns ls s (trees.variable x) = span_unless_known (list_any (bytes_eq x) ls || is_some (ns.variables x)) s
  unknown_in ns ls s (trees.call f a) = span_unless_known (is_some (ns.functions f)) s ++ unknown_names ns ls a
  unknown_in ns ls s (trees.pair a b) = unknown_names ns ls a ++ unknown_names ns ls b
  unknown_in ns ls s (trees.prefix_of o a) = unknown_names ns ls a
  unknown_in ns ls s (trees.infix_of o a b) = unknown_names ns ls a ++ unknown_names ns ls b
  unknown_in ns ls s (trees.index a i) = unknown_names ns ls a ++ unknown_names ns ls i
  unknown_in ns ls s (trees.choice a b c) = unknown_names ns ls a ++ (unknown_names ns ls b ++ unknown_names ns ls c)
  unknown_in ns ls s (trees.sequence es) = all_unknown_names ns ls es
  unknown_in ns ls s (trees.empty a) = unknown_types ns.datatypes a
  unknown_in ns ls s (trees.range a b) = unknown_names ns ls a ++ unknown_names ns ls b
  unknown_in ns ls s (trees.strided_range a b c) =
      unknown_names ns ls a ++ (unknown_names ns ls b ++ unknown_names ns ls c)
  unknown_in ns ls s (trees.let_in bs e) = unknown_in_let ns ls bs ++ unknown_names ns (all_names_bound bs ++ ls) e
  unknown_in ns ls s (trees.each e bs) = unknown_names ns (all_names_bound bs ++ ls) e ++ unknown_in_each ns ls bs
  unknown_in ns ls s (trees.filtered_each e bs f) =
      unknown_names ns (all_names_bound bs ++ ls) e
      ++ (unknown_in_each ns ls bs ++ unknown_names ns (all_names_bound bs ++ ls) f)
  unknown_in ns ls s trees.element = []

  pub all_unknown_names : Names → List (List ℕ) → Trees → List Span
  all_unknown_names ns ls none = []
  all_unknown_names ns ls (more e es) = unknown_names ns ls e ++ all_unknown_names ns ls es

  -- of a `let`: each value sees the names before it
  pub unknown_in_let : Names → List (List ℕ) → Binders → List Span
  unknown_in_let ns ls no_binders = []
  unknown_in_let ns ls (binder p e bs) =
      unknown_records ns.datatypes p ++ (unknown_names ns ls e ++ unknown_in_let ns (names_bound p ++ ls) bs)

  -- of an apply-to-each: the sequences don't see the binders
  pub unknown_in_each : Names → List (List ℕ) → Binders → List Span
  unknown_in_each ns ls no_binders = []
  unknown_in_each ns ls (binder p e bs) =
      unknown_records ns.datatypes p ++ (unknown_names ns ls e ++ unknown_in_each ns ls bs)

-- of a function: its parameter before its body. Its signature refers to nothing, since a name there is a variable
-- where it is no datatype
abbrev pub unknown_of_function : Names → PatternTree → Tree → List Span
unknown_of_function ns p e = unknown_records ns.datatypes p ++ unknown_names ns (names_bound p) e
