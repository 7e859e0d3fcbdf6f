-- What an expression evaluates to with a number of levels: its value or its fault, with the work and the depth, or
-- neither. The forms of expressions and what they mean are the NESL report's; works, depths, faults and the limits are
-- this profile's.
use Rattle.std.specs.Prelude.{ℕ, zero, suc, ◌+◌, ◌-◌, ℤ, pos, min, nat_le, Bool, true, false, cond, List, [], ◌∷◌, map}
use Rattle.std.specs.Prelude.{length, slice_get, Option, Some, None, option_map, option_and_then, ◌==◌, if◌then◌else◌}
use Rattle.std.specs.List.{range_with_len, list_all}
use Rattle.nesl_lex.specs.declared.token.Span.{Span}
use Rattle.nesl_values.specs.Tree as values
use Rattle.nesl_values.specs.Tree.{size}
use Rattle.nesl_values.specs.Parts.{as_bool, as_pair, as_sequence, elements}
use Rattle.nesl_scalars.specs.declared.trap.Trap.TheVariants.{Deep, Large, Length}
use Rattle.nesl_scalars.specs.Outcomes as outcomes
use Rattle.nesl_scalars.specs.Scalars.{unary, binary}
use Rattle.nesl_seqs_base.specs.declared.seq_fn.SeqFn.{SeqFn}
use Rattle.nesl_seqs_base.specs.declared.seq_fn.SeqFn.TheVariants as seq
use Rattle.nesl_seqs_base.specs.Reductions.{all_of}
use Rattle.nesl_seqs_base.specs.Meaning.{outcome_of}
use Rattle.nesl_seqs_base.specs.Prices.{reads, depth_of}
use Rattle.nesl_builtins.specs.declared.builtin.Builtin.{Builtin}
use Rattle.nesl_builtins.specs.declared.builtin.Builtin.TheVariants.{OfOne, OfTwo, OfSequences}
use Rattle.nesl_builtins.specs.Named.{builtin_named, infix_builtin, prefix_builtin, look_up}
use Rattle.nesl_syntax_tree.specs.Trees.{PatternTree, Tree, Trees, Binders, node, none, more, no_binders, binder}
use Rattle.nesl_syntax_tree.specs.Trees.{span_of}
use Rattle.nesl_syntax_tree.specs.Trees as trees
use Rattle.nesl_eval_meaning.specs.Names.{Value, Locals, Scope, outside, with_names, Top, variable_of, function_of}
use Rattle.nesl_eval_meaning.specs.Names.{datatype_of}
use Rattle.nesl_eval_meaning.specs.Names.{Environment, bound}
use Rattle.nesl_eval_meaning.specs.Out.{Out, value, fault, stuck, after_cost, and_then, given, at_call, all_beside}

-- what parts evaluate to, in a scope
abbrev pub PartOutcomes : Type 0
PartOutcomes = Scope → Tree → Out Value

abbrev pub greatest_number : ℕ
greatest_number = 9223372036854775807

-- the integer that a numeral denotes. No text has one beyond the greatest; a tree that has one denotes the greatest
abbrev pub denoted : ℕ → ℤ
denoted n = pos (min n greatest_number)

-- a pair, sequence or record that was made of parts has at most 1,048,576 nodes
abbrev pub small_enough : Span → Value → Out Value
small_enough s v = if nat_le (size v) 1048576 then value v 0 0 else fault Large s 0

-- a function of scalars costs the node's own 1
abbrev pub on_scalars : Span → outcomes.Outcome → Out Value
on_scalars s (outcomes.gives v) = value v 0 0
on_scalars s (outcomes.traps t) = fault t s 0
on_scalars s outcomes.undefined = stuck

-- a sequence function costs the elements that it reads and the nodes below its result's root besides; a reduction or
-- a scan is deeper
abbrev pub on_sequence : Span → SeqFn → Value → outcomes.Outcome → Out Value
on_sequence s f v (outcomes.gives u) = value u (reads f v + (size u - 1)) (depth_of f (reads f v) - 1)
on_sequence s f v (outcomes.traps t) = fault t s 0
on_sequence s f v outcomes.undefined = stuck

-- a built-in function at its argument, which is one value
abbrev pub apply_builtin : Span → Builtin → Value → Out Value
apply_builtin s (OfOne f) v = on_scalars s (unary f v)
apply_builtin s (OfTwo f) v = given (as_pair v) (λ p. on_scalars s (binary f p.0 p.1))
apply_builtin s (OfSequences f) v = on_sequence s f v (outcome_of f v)

-- a local name, or else a top-level variable
abbrev pub variable_in : Option Value → Option Top → Out Value
variable_in (Some v) t = value v 0 0
variable_in None (Some (variable_of v)) = value v 0 0
variable_in None _ = stuck

-- an expression with a pattern's names besides
abbrev pub in_bound : PartOutcomes → PatternTree → Value → Scope → Tree → Out Value
in_bound f p v sc e = given (bound p v sc.names) (λ names. f (with_names sc names) e)

-- a name before `(` is a built-in function, or else a user's function or a datatype; local names don't hide it
abbrev pub call_name : PartOutcomes → Span → Option Builtin → Option Top → Value → Out Value
call_name f s (Some b) t v = apply_builtin s b v
call_name f s None (Some (function_of p e)) v = at_call s (in_bound f p v (outside []) e)
call_name f s None (Some (datatype_of k)) v = small_enough s (values.tagged k v)
call_name f s None _ v = stuck

-- one of two, by the test
abbrev pub branch : Option Bool → Out Value → Out Value → Out Value
branch (Some true) o p = o
branch (Some false) o p = p
branch None o p = stuck

-- parts, from left to right
abbrev pub two_parts : PartOutcomes → Scope → Tree → Tree → (Value → Value → Out Value) → Out Value
two_parts f sc a b k = and_then (f sc a) (λ x. and_then (f sc b) (k x))

abbrev pub three_parts : PartOutcomes → Scope → Tree → Tree → Tree → (Value → Value → Value → Out Value) → Out Value
three_parts f sc a b c k = and_then (f sc a) (λ x. two_parts f sc b c (k x))

abbrev pub all_parts : PartOutcomes → Scope → Trees → Out (List Value)
all_parts f sc none = value [] 0 0
all_parts f sc (more e es) = and_then (f sc e) (λ v. and_then (all_parts f sc es) (λ vs. value (v ∷ vs) 0 0))

-- the bindings in order, each seeing those before it, and then the body
abbrev pub let_of : PartOutcomes → Binders → Tree → Scope → Out Value
let_of f no_binders e sc = f sc e
let_of f (binder p a bs) e sc =
    and_then (f sc a) (λ v. given (bound p v sc.names) (λ names. let_of f bs e (with_names sc names)))

-- the sequences of an apply-to-each don't see its binders
abbrev pub sources : Binders → Trees
sources no_binders = none
sources (binder p e bs) = more e (sources bs)

-- the places of sequences of one length. An apply-to-each over no sequence, which no text is and which has no type, is
-- stuck here
abbrev pub common_places : Span → List ℕ → Out (List ℕ)
common_places s [] = stuck
common_places s (n ∷ ns) = if list_all (λ m. m == n) ns then value (range_with_len 0 n) 0 0 else fault Length s 0

-- the lengths of sequences
abbrev pub lengths : List Value → Option (List ℕ)
lengths = all_of (λ v. option_map length (as_sequence v))

-- the names with those of each pattern, bound to the element of its sequence at a place
abbrev pub bound_at : Binders → List Value → ℕ → Locals → Option Locals
bound_at no_binders [] i names = Some names
bound_at (binder p e bs) (v ∷ vs) i names =
    option_and_then (λ x. option_and_then (bound_at bs vs i) (bound p x names)) (slice_get (elements v) i)
bound_at _ _ i names = None

-- the element at a place of the first sequence
abbrev pub first_at : List Value → ℕ → Option Value
first_at [] i = None
first_at (v ∷ vs) i = slice_get (elements v) i

-- the scope at a place: the binders' names, and the first sequence's element
abbrev pub scope_at : Binders → List Value → Scope → ℕ → Option Scope
scope_at bs vs sc i =
    option_map (λ names. record { names = names; element = first_at vs i }) (bound_at bs vs i sc.names)

-- an expression at a place
abbrev pub out_at : PartOutcomes → Binders → List Value → Scope → Tree → ℕ → Out Value
out_at f bs vs sc e i = given (scope_at bs vs sc i) (λ inner. f inner e)

-- the place where its filter holds, or none
abbrev pub place_if_true : ℕ → Value → Out (List ℕ)
place_if_true i v = given (as_bool v) (λ b. value (cond b (i ∷ []) []) 0 0)

-- a body's value, which costs its nodes
abbrev pub body_value : Value → Out (List Value)
body_value v = value (v ∷ []) (size v) 0

-- the places at which the filter holds, and the values of the bodies at places
abbrev pub kept_places : PartOutcomes → Binders → List Value → Scope → Tree → List ℕ → Out (List ℕ)
kept_places f bs vs sc c = all_beside (λ i. and_then (out_at f bs vs sc c i) (place_if_true i))

abbrev pub body_values : PartOutcomes → Binders → List Value → Scope → Tree → List ℕ → Out Value
body_values f bs vs sc e is =
    and_then (all_beside (λ i. and_then (out_at f bs vs sc e i) body_value) is) (λ us. value (values.sequence us) 0 0)

-- the sequences, and then what depends on them and on their places
abbrev pub over_places : PartOutcomes → Span → Binders → Scope → (List Value → List ℕ → Out Value) → Out Value
over_places f s bs sc k =
    and_then (all_parts f sc (sources bs)) (λ vs. given (lengths vs) (λ ns. and_then (common_places s ns) (k vs)))

-- a node besides its own 1, from what its parts evaluate to
abbrev pub node_of : PartOutcomes → Environment → Scope → Tree → Out Value
node_of f env sc (node s (trees.number n)) = value (values.int (denoted n)) 0 0
node_of f env sc (node s (trees.truth b)) = value (values.boolean b) 0 0
node_of f env sc (node s (trees.character c)) = value (values.character c) 0 0
node_of f env sc (node s (trees.text cs)) = value (values.sequence (map values.character cs)) (length cs) 0
node_of f env sc (node s (trees.variable x)) = variable_in (look_up sc.names x) (look_up env x)
node_of f env sc (node s (trees.call x a)) = and_then (f sc a) (call_name f s (builtin_named x) (look_up env x))
node_of f env sc (node s (trees.pair a b)) = two_parts f sc a b (λ x y. small_enough s (values.pair x y))
node_of f env sc (node s (trees.prefix_of o a)) = and_then (f sc a) (apply_builtin s (prefix_builtin o))
node_of f env sc (node s (trees.infix_of o a b)) =
    two_parts f sc a b (λ x y. apply_builtin s (infix_builtin o) (values.pair x y))
node_of f env sc (node s (trees.index a b)) =
    two_parts f sc a b (λ x y. apply_builtin s (OfSequences seq.ElementAt) (values.pair x y))
node_of f env sc (node s (trees.choice a b c)) = and_then (f sc a) (λ x. branch (as_bool x) (f sc b) (f sc c))
node_of f env sc (node s (trees.sequence es)) = and_then (all_parts f sc es) (λ vs. small_enough s (values.sequence vs))
node_of f env sc (node s (trees.empty t)) = value (values.sequence []) 0 0
node_of f env sc (node s (trees.range a b)) =
    two_parts f sc a b (λ x y. apply_builtin s (OfSequences seq.Range) (values.pair x y))
node_of f env sc (node s (trees.strided_range a b c)) =
    three_parts f sc a b c (λ x y z. apply_builtin s (OfSequences seq.RangeBy) (values.pair x (values.pair y z)))
node_of f env sc (node s (trees.let_in bs e)) = let_of f bs e sc
node_of f env sc (node s (trees.each e bs)) = over_places f s bs sc (λ vs is. body_values f bs vs sc e is)
node_of f env sc (node s (trees.filtered_each e bs c)) =
    over_places f s bs sc (λ vs is. and_then (kept_places f bs vs sc c is) (body_values f bs vs sc e))
node_of f env sc (node s trees.element) = given sc.element (λ v. value v 0 0)

-- with no level left a node faults and costs nothing; else it costs 1, and its parts have a level less
unfoldable pub out : ℕ → Environment → Scope → Tree → Out Value
out zero env sc e = fault Deep (span_of e) 0
out (suc n) env sc e = after_cost 1 1 (node_of (out n env) env sc e)
