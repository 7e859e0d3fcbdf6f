-- Bindings that are worked by hand. With `function id(x) = x;` there is `(id((3, T)), id("a"))`. With `datatype point
-- (int, int);` there is `let point(a, b) = point((1, 2)) in a + b`. With no name bound there is `{{a + a : a in v} : v
-- in [[1, 2], [3]]}`. Last, there is a function whose body has ever larger types.
use Rattle.std.specs.Prelude.{◌≡◌, ℕ, zero, suc, true, List, [], ◌∷◌, codes}
use Rattle.nesl_lex.specs.declared.token.Span.{Span}
use Rattle.nesl_syntax_tree.specs.declared.tree.Operator.TheVariants as sign
use Rattle.nesl_syntax_tree.specs.Trees.{PatternTree, Tree, Binders, pattern, node}
use Rattle.nesl_syntax_tree.specs.Trees as trees
use Rattle.nesl_types.specs.declared.bindings.Top.{Top}
use Rattle.nesl_types.specs.declared.bindings.Top.TheVariants as top
use Rattle.nesl_types.specs.declared.classes.Class.TheVariants.{Any}
use Rattle.nesl_types.specs.declared.schemes.Scheme.{Scheme}
use Rattle.nesl_types_shared.specs.Term.{Term, int, bool, char, variable, seq_of, pair_of, nodes}
use Rattle.nesl_eval_meaning.specs.Names.{function_of, outside, datatype_of}
use Rattle.nesl_eval_meaning.specs.Names as evaluated
use Rattle.nesl_eval_meaning.specs.Outcome.{out}
use Rattle.nesl_eval_sound.specs.HasType.{HasType}
use Rattle.nesl_eval_sound.specs.Sound.{IsFine}
use Rattle.nesl_eval_sound.specs.Lines.{IsSound, held_in, values_of}

abbrev pub here : Span
here = record { start = 0; end = 0 }

abbrev pub parameter : PatternTree
parameter = pattern here (trees.name_pattern (codes "x"))

abbrev pub body : Tree
body = node here (trees.variable (codes "x"))

-- the payloads are what the names mean
abbrev pub as_it_is : Top → evaluated.Top → evaluated.Top
as_it_is t v = v

abbrev pub Bindings : Type 0
Bindings = List (List ℕ × Top × evaluated.Top)

abbrev pub with_identity : Scheme → Bindings
with_identity s = (codes "id", top.Function s, function_of parameter body) ∷ []

-- from each type to the same type
abbrev pub IsIdentity : Scheme → Type 0
IsIdentity s = (s.argument ≡ variable 0) × (s.result ≡ variable 0) × (s.classes.items ≡ Any ∷ [])

abbrev pub three_and_true : Tree
three_and_true =
    node here (trees.pair (node here (trees.number 3)) (node here (trees.truth true)))

abbrev pub identity_of : Tree → Tree
identity_of e = node here (trees.call (codes "id") e)

abbrev pub two_calls : Tree
two_calls =
    node here (trees.pair (identity_of three_and_true) (identity_of (node here (trees.text (codes "a")))))

-- ((int, bool), [char])
abbrev pub their_type : Term
their_type = pair_of (pair_of int bool) (seq_of char)

-- the bindings are sound, and the calls at two types are never stuck and have their type
abbrev pub IdentityIsSound : Type 0
IdentityIsSound = (s : Scheme) → IsIdentity s →
    IsSound as_it_is (with_identity s) ×
    ((n : ℕ) → IsFine (λ v. HasType (held_in (with_identity s)) v their_type)
    (out n (values_of as_it_is (with_identity s)) (outside []) two_calls))

abbrev pub with_point : Term → Bindings
with_point t = (codes "point", top.Datatype 0 t, datatype_of 0) ∷ []

abbrev pub number_of : ℕ → Tree
number_of n = node here (trees.number n)

abbrev pub named : List ℕ → Tree
named x = node here (trees.variable x)

abbrev pub point_of_two : PatternTree
point_of_two =
    pattern here (trees.record_pattern (codes "point") (pattern here (trees.pair_pattern
    (pattern here (trees.name_pattern (codes "a"))) (pattern here (trees.name_pattern (codes "b"))))))

abbrev pub point_taken_apart : Tree
point_taken_apart =
    node here (trees.let_in
    (trees.binder point_of_two
    (node here (trees.call (codes "point") (node here (trees.pair (number_of 1) (number_of 2))))) trees.no_binders)
    (node here (trees.infix_of sign.Plus (named (codes "a")) (named (codes "b")))))

-- the bindings are sound, and the sum of the parts of a record is never stuck and a number
abbrev pub PointIsSound : Type 0
PointIsSound = (t : Term) → t ≡ pair_of int int →
    IsSound as_it_is (with_point t) ×
    ((n : ℕ) → IsFine (λ v. HasType (held_in (with_point t)) v int)
    (out n (values_of as_it_is (with_point t)) (outside []) point_taken_apart))

abbrev pub nothing_bound : Bindings
nothing_bound = []

-- `{e : x in v}`
abbrev pub each_of : Tree → List ℕ → Tree → Tree
each_of e x v = node here (trees.each e (trees.binder (pattern here (trees.name_pattern x)) v trees.no_binders))

abbrev pub sequence_of : Tree → trees.Trees → Tree
sequence_of e es = node here (trees.sequence (trees.more e es))

abbrev pub two_lists : Tree
two_lists =
    sequence_of (sequence_of (number_of 1) (trees.more (number_of 2) trees.none))
    (trees.more (sequence_of (number_of 3) trees.none) trees.none)

abbrev pub nested : Tree
nested =
    each_of
    (each_of (node here (trees.infix_of sign.Plus (named (codes "a")) (named (codes "a")))) (codes "a")
    (named (codes "v")))
    (codes "v") two_lists

-- a nested apply-to-each is never stuck, and what it gives is a sequence of sequences of numbers
abbrev pub NestedIsSound : Type 0
NestedIsSound =
    (n : ℕ) → IsFine (λ v. HasType (held_in nothing_bound) v (seq_of (seq_of int)))
    (out n (values_of as_it_is nothing_bound) (outside []) nested)

-- `x = (x, x); x = (x, x); ..`, this number of times
abbrev pub doublings : ℕ → Binders
doublings zero = trees.no_binders
doublings (suc k) =
    trees.binder parameter (node here (trees.pair (named (codes "x")) (named (codes "x")))) (doublings k)

-- a type that is doubled this number of times
abbrev pub doubled : ℕ → Term → Term
doubled zero t = t
doubled (suc k) t = doubled k (pair_of t t)

abbrev pub growing : ℕ → Tree
growing k = node here (trees.let_in (doublings k) (node here (trees.truth true)))

-- `function grow(x) = let x = (x, x); .. in T;`
abbrev pub with_growing : ℕ → Scheme → Bindings
with_growing k s =
    (codes "grow", top.Function s, function_of parameter (growing k)) ∷ []

-- from each type to bool
abbrev pub IsTest : Scheme → Type 0
IsTest s = (s.argument ≡ variable 0) × (s.result ≡ bool) × (s.classes.items ≡ Any ∷ [])

abbrev pub growing_call : Tree
growing_call = node here (trees.call (codes "grow") three_and_true)

-- However often the body doubles its argument, the bindings are sound, and the call is never stuck. With 11 doublings
-- the types of the body have at most 4,095 nodes, so the line that defines the function is well typed. At the call they
-- have up to 8,191.
pub record GrowingIsSound : Type 0 where
  pub sound : (k : ℕ) (s : Scheme) → IsTest s →
      IsSound as_it_is (with_growing k s) ×
      ((n : ℕ) → IsFine (λ v. HasType (held_in (with_growing k s)) v bool)
      (out n (values_of as_it_is (with_growing k s)) (outside []) growing_call))
  pub defined : nodes (doubled 11 (variable 0)) ≡ 4095
  pub called : nodes (doubled 11 (pair_of int bool)) ≡ 8191
