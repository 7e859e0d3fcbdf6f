-- What an expression evaluates to, with an account of what it cost. It is the meaning of expressions once more, where
-- costs are kept in place of their sums.
use Rattle.std.specs.Prelude.{ℕ, zero, suc, length, List, [], ◌∷◌, ◌++◌, map, Bool, true, false, Option}
use Rattle.std.specs.Prelude.{Some, None, unwrap_or}
use Rattle.nesl_lex.specs.declared.token.Span.{Span}
use Rattle.nesl_values.specs.Tree as values
use Rattle.nesl_values.specs.Parts.{as_bool}
use Rattle.nesl_scalars.specs.declared.trap.Trap.{Trap}
use Rattle.nesl_scalars.specs.declared.trap.Trap.TheVariants.{Deep}
use Rattle.nesl_seqs_base.specs.declared.seq_fn.SeqFn.TheVariants as seq
use Rattle.nesl_builtins.specs.declared.builtin.Builtin.{Builtin}
use Rattle.nesl_builtins.specs.declared.builtin.Builtin.TheVariants.{OfSequences}
use Rattle.nesl_builtins.specs.Named.{builtin_named, infix_builtin, prefix_builtin, look_up}
use Rattle.nesl_syntax_tree.specs.Trees.{PatternTree, Tree, Trees, Binders, node, none, more, no_binders, binder}
use Rattle.nesl_syntax_tree.specs.Trees.{span_of}
use Rattle.nesl_syntax_tree.specs.Trees as trees
use Rattle.nesl_eval_meaning.specs.Names.{Name, Value, Scope, outside, with_names, Top, function_of}
use Rattle.nesl_eval_meaning.specs.Names.{datatype_of, Environment, bound}
use Rattle.nesl_eval_meaning.specs.Out as out
use Rattle.nesl_eval_meaning.specs.Out.{Out}
use Rattle.nesl_eval_meaning.specs.Outcome.{small_enough, apply_builtin, variable_in, common_places, lengths, sources}
use Rattle.nesl_eval_meaning.specs.Outcome.{scope_at, place_if_true, body_value, denoted}
use Rattle.nesl_cost_meaning.specs.Cost.{Cost, free, entered, spent, after, turn, called, work_in, depth_in, Place}

-- a value, or a fault, each with its cost; or neither. A fault has the span that is reported, in the line, and its
-- place, in the line or in the body of a function
pub data Traced (X : Type 0) : Type 0 where
  value : X → Cost → Traced X
  fault : Trap → (reported : Span) → (at : Place) → Cost → Traced X
  stuck : Traced X

-- a place in a body: that body's, unless it is in a body that was called there
abbrev pub in_body : Name → Place → Place
in_body x p = record { home = Some (unwrap_or p.home x); span = p.span }

abbrev pub in_line : Span → Place
in_line s = record { home = None; span = s }

-- the outcome alone
abbrev pub erase : {X : Type 0} → Traced X → Out X
erase (value x c) = out.value x (work_in c) (depth_in c)
erase (fault t s p c) = out.fault t s (work_in c)
erase stuck = out.stuck

-- what a node does at once, charged at its span
abbrev pub charged : {X : Type 0} → Span → Out X → Traced X
charged s (out.value x w d) = value x (spent s w d)
charged s (out.fault t s' w) = fault t s' (in_line s') (spent s w 0)
charged s out.stuck = stuck

-- the same after this cost
abbrev pub after_cost : {X : Type 0} → Cost → Traced X → Traced X
after_cost c (value x c') = value x (after c c')
after_cost c (fault t s p c') = fault t s p (after c c')
after_cost c stuck = stuck

abbrev pub and_then : {X Y : Type 0} → Traced X → (X → Traced Y) → Traced Y
and_then (value x c) k = after_cost c (k x)
and_then (fault t s p c) k = fault t s p c
and_then stuck k = stuck

abbrev pub given : {X Y : Type 0} → Option X → (X → Traced Y) → Traced Y
given (Some x) k = k x
given None k = stuck

abbrev pub at_call : {X : Type 0} → Name → Span → Traced X → Traced X
at_call x s (value v c) = value v (called x s c)
at_call x s (fault t s' p c) = fault t s (in_body x p) (called x s c)
at_call x s stuck = stuck

-- a turn beside the turns after it
abbrev pub beside : {X : Type 0} → Span → ℕ → Traced (List X) → Traced (List X) → Traced (List X)
beside k i (value xs c) (value ys c') = value (xs ++ ys) (turn k i c c')
beside k i (value xs c) (fault t s p c') = fault t s p (turn k i c c')
beside k i (value xs c) stuck = stuck
beside k i (fault t s p c) o = fault t s p (turn k i c free)
beside k i stuck o = stuck

abbrev pub all_beside : {X : Type 0} → Span → (ℕ → Traced (List X)) → List ℕ → Traced (List X)
all_beside k f [] = value [] free
all_beside k f (i ∷ is) = beside k i (f i) (all_beside k f is)

abbrev pub Parts : Type 0
Parts = Scope → Tree → Traced Value

abbrev pub in_bound : Parts → PatternTree → Value → Scope → Tree → Traced Value
in_bound f p v sc e = given (bound p v sc.names) (λ names. f (with_names sc names) e)

abbrev pub call_name : Parts → Name → Span → Option Builtin → Option Top → Value → Traced Value
call_name f x s (Some b) t v = charged s (apply_builtin s b v)
call_name f x s None (Some (function_of p e)) v = at_call x s (in_bound f p v (outside []) e)
call_name f x s None (Some (datatype_of k)) v = charged s (small_enough s (values.tagged k v))
call_name f x s None _ v = stuck

abbrev pub branch : Option Bool → Traced Value → Traced Value → Traced Value
branch (Some true) o p = o
branch (Some false) o p = p
branch None o p = stuck

abbrev pub two_parts : Parts → Scope → Tree → Tree → (Value → Value → Traced Value) → Traced Value
two_parts f sc a b k = and_then (f sc a) (λ x. and_then (f sc b) (k x))

abbrev pub three_parts : Parts → Scope → Tree → Tree → Tree → (Value → Value → Value → Traced Value) → Traced Value
three_parts f sc a b c k = and_then (f sc a) (λ x. two_parts f sc b c (k x))

abbrev pub all_parts : Parts → Scope → Trees → Traced (List Value)
all_parts f sc none = value [] free
all_parts f sc (more e es) = and_then (f sc e) (λ v. and_then (all_parts f sc es) (λ vs. value (v ∷ vs) free))

abbrev pub let_of : Parts → Binders → Tree → Scope → Traced Value
let_of f no_binders e sc = f sc e
let_of f (binder p a bs) e sc =
    and_then (f sc a) (λ v. given (bound p v sc.names) (λ names. let_of f bs e (with_names sc names)))

abbrev pub at_place : Parts → Binders → List Value → Scope → Tree → ℕ → Traced Value
at_place f bs vs sc e i = given (scope_at bs vs sc i) (λ inner. f inner e)

-- a body's value costs its nodes, which are charged at the apply-to-each. The turns of a filter have the filter's span
abbrev pub kept_places : Parts → Span → Binders → List Value → Scope → Tree → List ℕ → Traced (List ℕ)
kept_places f s bs vs sc c =
    all_beside (span_of c) (λ i. and_then (at_place f bs vs sc c i) (λ v. charged s (place_if_true i v)))

abbrev pub body_values : Parts → Span → Binders → List Value → Scope → Tree → List ℕ → Traced Value
body_values f s bs vs sc e is =
    and_then (all_beside s (λ i. and_then (at_place f bs vs sc e i) (λ v. charged s (body_value v))) is)
    (λ us. value (values.sequence us) free)

abbrev pub over_places : Parts → Span → Binders → Scope → (List Value → List ℕ → Traced Value) → Traced Value
over_places f s bs sc k =
    and_then (all_parts f sc (sources bs))
    (λ vs. given (lengths vs) (λ ns. and_then (charged s (common_places s ns)) (k vs)))

-- a node besides its own 1
abbrev pub node_of : Parts → Environment → Scope → Tree → Traced Value
node_of f env sc (node s (trees.number n)) = value (values.int (denoted n)) free
node_of f env sc (node s (trees.truth b)) = value (values.boolean b) free
node_of f env sc (node s (trees.character c)) = value (values.character c) free
node_of f env sc (node s (trees.text cs)) =
    value (values.sequence (map values.character cs)) (spent s (length cs) 0)
node_of f env sc (node s (trees.variable x)) = charged s (variable_in (look_up sc.names x) (look_up env x))
node_of f env sc (node s (trees.call x a)) = and_then (f sc a) (call_name f x s (builtin_named x) (look_up env x))
node_of f env sc (node s (trees.pair a b)) = two_parts f sc a b (λ x y. charged s (small_enough s (values.pair x y)))
node_of f env sc (node s (trees.prefix_of o a)) =
    and_then (f sc a) (λ x. charged s (apply_builtin s (prefix_builtin o) x))
node_of f env sc (node s (trees.infix_of o a b)) =
    two_parts f sc a b (λ x y. charged s (apply_builtin s (infix_builtin o) (values.pair x y)))
node_of f env sc (node s (trees.index a b)) =
    two_parts f sc a b (λ x y. charged s (apply_builtin s (OfSequences seq.ElementAt) (values.pair x y)))
node_of f env sc (node s (trees.choice a b c)) = and_then (f sc a) (λ x. branch (as_bool x) (f sc b) (f sc c))
node_of f env sc (node s (trees.sequence es)) =
    and_then (all_parts f sc es) (λ vs. charged s (small_enough s (values.sequence vs)))
node_of f env sc (node s (trees.empty t)) = value (values.sequence []) free
node_of f env sc (node s (trees.range a b)) =
    two_parts f sc a b (λ x y. charged s (apply_builtin s (OfSequences seq.Range) (values.pair x y)))
node_of f env sc (node s (trees.strided_range a b c)) =
    three_parts f sc a b c
    (λ x y z. charged s (apply_builtin s (OfSequences seq.RangeBy) (values.pair x (values.pair y z))))
node_of f env sc (node s (trees.let_in bs e)) = let_of f bs e sc
node_of f env sc (node s (trees.each e bs)) = over_places f s bs sc (λ vs is. body_values f s bs vs sc e is)
node_of f env sc (node s (trees.filtered_each e bs c)) =
    over_places f s bs sc (λ vs is. and_then (kept_places f s bs vs sc c is) (body_values f s bs vs sc e))
node_of f env sc (node s trees.element) = given sc.element (λ v. value v free)

-- with no level left a node faults and costs nothing; else it is entered, and its parts have a level less
unfoldable pub traced : ℕ → Environment → Scope → Tree → Traced Value
traced zero env sc e = fault Deep (span_of e) (in_line (span_of e)) free
traced (suc n) env sc e = after_cost (entered (span_of e)) (node_of (traced n env) env sc e)
