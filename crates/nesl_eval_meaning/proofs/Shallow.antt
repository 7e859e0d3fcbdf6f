-- A depth is never above its work.
use Rattle.std.proofs.Common.{ℕ, zero, suc, ◌+◌, ◌^◌, ◌≤◌, Bool, true, false, cond, nat_le, arith, List, [], ◌∷◌, Option, Some, None}
use Rattle.std.specs.Prelude.{if◌then◌else◌, ◌==◌}
use Rattle.nesl_lex.specs.declared.token.Span.{Span}
use Rattle.nesl_values.specs.Tree as values
use Rattle.nesl_values.specs.Tree.{size}
use Rattle.nesl_values.specs.Parts.{as_bool, as_pair}
use Rattle.nesl_scalars.specs.declared.trap.Trap.TheVariants as trap
use Rattle.std.specs.List.{list_all, range_with_len}
use Rattle.nesl_scalars.specs.Outcomes as outcomes
use Rattle.nesl_scalars.specs.Scalars.{unary, binary}
use Rattle.nesl_seqs_base.specs.Meaning.{outcome_of}
use Rattle.nesl_seqs_base.specs.Prices.{reads, powers_within, digits, depth_of}
use Rattle.nesl_seqs_base.specs.declared.seq_fn.SeqFn.{SeqFn}
use Rattle.nesl_seqs_base.specs.declared.seq_fn.SeqFn.TheVariants.{Length, ElementAt, Append, Dist, Range, RangeBy, Index, Sum, Any, All, Count, Bottop, Take, Drop, Reverse, Rotate, Zip, Rep, Eql, MaxVal, MinVal, MaxIndex, MinIndex, PlusScan, OrScan, AndScan, Flatten, Unzip, OddElts, EvenElts, Interleave, Gather, Permute, Split, Partition, Write}
use Rattle.nesl_builtins.specs.declared.builtin.Builtin.{Builtin}
use Rattle.nesl_builtins.specs.declared.builtin.Builtin.TheVariants.{OfOne, OfTwo, OfSequences}
use Rattle.nesl_builtins.specs.Named.{builtin_named, prefix_builtin, infix_builtin, look_up}
use Rattle.nesl_seqs_base.specs.declared.seq_fn.SeqFn.TheVariants as seq
use Rattle.nesl_syntax_tree.specs.Trees.{Tree, Trees, Binders, node, none, more, no_binders, binder}
use Rattle.nesl_syntax_tree.specs.Trees as trees
use Rattle.nesl_eval_meaning.specs.Names.{Value, Scope, Environment, Top, variable_of, function_of, datatype_of, nothing, bound, outside, with_names}
use Rattle.nesl_eval_meaning.specs.Out.{Out, value, fault, stuck, after_cost, and_then, given, at_call, beside}
use Rattle.nesl_eval_meaning.specs.Out.{all_beside}
use Rattle.nesl_eval_meaning.specs.Outcome.{PartOutcomes, out, node_of, small_enough, on_scalars, on_sequence, apply_builtin, variable_in, call_name, branch, two_parts, all_parts, let_of, sources, common_places, lengths, scope_at, out_at, place_if_true, body_value, kept_places, body_values, over_places}
use Rattle.nesl_eval_meaning.specs.Laws.{IsShallow, CostsOne, DepthWithinWork}

at_most_one : (b : Bool) → cond b 1 0 ≤ 1
at_most_one true = omega arith
at_most_one false = omega arith

powers_few : (k n : ℕ) → powers_within k n ≤ k
powers_few zero n = omega arith
powers_few (suc k) n = omega (arith, powers_few k n, at_most_one (nat_le (2 ^ k) n))

digits_few : (n : ℕ) → digits n ≤ n
unfolding digits
digits_few n = powers_few n n

depth_fits : (f : SeqFn) (n : ℕ) → (1 ≤ depth_of f n) × (depth_of f n ≤ 1 + n)
depth_fits Length n = (omega arith, omega arith)
depth_fits ElementAt n = (omega arith, omega arith)
depth_fits Append n = (omega arith, omega arith)
depth_fits Dist n = (omega arith, omega arith)
depth_fits Range n = (omega arith, omega arith)
depth_fits RangeBy n = (omega arith, omega arith)
depth_fits Index n = (omega arith, omega arith)
depth_fits Sum n = (omega arith, omega (arith, digits_few n))
depth_fits Any n = (omega arith, omega (arith, digits_few n))
depth_fits All n = (omega arith, omega (arith, digits_few n))
depth_fits Count n = (omega arith, omega (arith, digits_few n))
depth_fits Bottop n = (omega arith, omega arith)
depth_fits Take n = (omega arith, omega arith)
depth_fits Drop n = (omega arith, omega arith)
depth_fits Reverse n = (omega arith, omega arith)
depth_fits Rotate n = (omega arith, omega arith)
depth_fits Zip n = (omega arith, omega arith)
depth_fits Rep n = (omega arith, omega arith)
depth_fits Eql n = (omega arith, omega arith)
depth_fits MaxVal n = (omega arith, omega (arith, digits_few n))
depth_fits MinVal n = (omega arith, omega (arith, digits_few n))
depth_fits MaxIndex n = (omega arith, omega (arith, digits_few n))
depth_fits MinIndex n = (omega arith, omega (arith, digits_few n))
depth_fits PlusScan n = (omega arith, omega (arith, digits_few n))
depth_fits OrScan n = (omega arith, omega (arith, digits_few n))
depth_fits AndScan n = (omega arith, omega (arith, digits_few n))
depth_fits Flatten n = (omega arith, omega arith)
depth_fits Unzip n = (omega arith, omega arith)
depth_fits OddElts n = (omega arith, omega arith)
depth_fits EvenElts n = (omega arith, omega arith)
depth_fits Interleave n = (omega arith, omega arith)
depth_fits Gather n = (omega arith, omega arith)
depth_fits Permute n = (omega arith, omega arith)
depth_fits Split n = (omega arith, omega arith)
depth_fits Partition n = (omega arith, omega arith)
depth_fits Write n = (omega arith, omega arith)

after : {X : Type 0} (w d : ℕ) (o : Out X) → d ≤ w → IsShallow o → IsShallow (after_cost w d o)
after w d stuck l h = tt
after w d (fault t s v) l h = tt
after w d (value x v e) l h = omega arith

then_shallow : {X Y : Type 0} (o : Out X) (k : X → Out Y) → IsShallow o → ((x : X) → IsShallow (k x)) → IsShallow (and_then o k)
then_shallow stuck k h i = tt
then_shallow (fault t s w) k h i = tt
then_shallow (value x w d) k h i = after w d (k x) h (i x)

given_shallow : {X Y : Type 0} (b : Option X) (k : X → Out Y) → ((x : X) → IsShallow (k x)) → IsShallow (given b k)
given_shallow None k h = tt
given_shallow (Some x) k h = h x

call_shallow : {X : Type 0} (s : Span) (o : Out X) → IsShallow o → IsShallow (at_call s o)
call_shallow s stuck h = tt
call_shallow s (fault t u w) h = tt
call_shallow s (value x w d) h = h

beside_shallow : {X : Type 0} (o p : Out (List X)) → IsShallow o → IsShallow p → IsShallow (beside o p)
beside_shallow stuck p h i = tt
beside_shallow (fault t s w) p h i = tt
beside_shallow (value xs w d) stuck h i = tt
beside_shallow (value xs w d) (fault t s v) h i = tt
beside_shallow (value xs w d) (value ys v e) h i = omega arith

all_shallow : {I X : Type 0} (f : I → Out (List X)) (is : List I) → ((i : I) → IsShallow (f i)) → IsShallow (all_beside f is)
all_shallow f [] h = omega arith
all_shallow f (i ∷ is) h = beside_shallow (f i) (all_beside f is) (h i) (all_shallow f is h)

branch_shallow : (b : Option Bool) (o p : Out Value) → IsShallow o → IsShallow p → IsShallow (branch b o p)
branch_shallow None o p h i = tt
branch_shallow (Some true) o p h i = h
branch_shallow (Some false) o p h i = i

made_shallow : (s : Span) (v : Value) → IsShallow (small_enough s v)
made_shallow s v = by (nat_le (size v) 1048576)
  where
    by : (b : Bool) → IsShallow (if b then value v 0 0 else fault trap.Large s 0)
    by true = omega arith
    by false = tt

scalars_shallow : (s : Span) (o : outcomes.Outcome) → IsShallow (on_scalars s o)
scalars_shallow s (outcomes.gives v) = omega arith
scalars_shallow s (outcomes.traps t) = tt
scalars_shallow s outcomes.undefined = tt

sequence_shallow : (s : Span) (f : SeqFn) (v : Value) (o : outcomes.Outcome) → IsShallow (on_sequence s f v o)
sequence_shallow s f v (outcomes.gives u) = omega (arith, depth_fits f (reads f v))
sequence_shallow s f v (outcomes.traps t) = tt
sequence_shallow s f v outcomes.undefined = tt

applied_shallow : (s : Span) (g : Builtin) (v : Value) → IsShallow (apply_builtin s g v)
applied_shallow s (OfOne f) v = scalars_shallow s (unary f v)
applied_shallow s (OfTwo f) v = given_shallow (as_pair v) _ (λ p. scalars_shallow s (binary f p.0 p.1))
applied_shallow s (OfSequences f) v = sequence_shallow s f v (outcome_of f v)

variable_shallow : (o : Option Value) (t : Option Top) → IsShallow (variable_in o t)
variable_shallow (Some v) t = omega arith
variable_shallow None None = tt
variable_shallow None (Some (variable_of v)) = omega arith
variable_shallow None (Some (function_of p e)) = tt
variable_shallow None (Some (datatype_of k)) = tt
variable_shallow None (Some nothing) = tt

module _ (f : PartOutcomes) (h : (sc : Scope) (e : Tree) → IsShallow (f sc e)) where
  called_shallow : (s : Span) (g : Option Builtin) (t : Option Top) (v : Value) → IsShallow (call_name f s g t v)
  called_shallow s (Some b) t v = applied_shallow s b v
  called_shallow s None None v = tt
  called_shallow s None (Some (variable_of w)) v = tt
  called_shallow s None (Some (function_of p e)) v =
      call_shallow s _ (given_shallow (bound p v []) _ (λ names. h (with_names (outside []) names) e))
  called_shallow s None (Some (datatype_of k)) v = made_shallow s (values.tagged k v)
  called_shallow s None (Some nothing) v = tt

  two_shallow : (sc : Scope) (a b : Tree) (k : Value → Value → Out Value) → ((x y : Value) → IsShallow (k x y)) → IsShallow (two_parts f sc a b k)
  two_shallow sc a b k i = then_shallow (f sc a) _ (h sc a) (λ x. then_shallow (f sc b) (k x) (h sc b) (i x))

  parts_shallow : (sc : Scope) (es : Trees) → IsShallow (all_parts f sc es)
  parts_shallow sc none = omega arith
  parts_shallow sc (more e es) =
      then_shallow (f sc e) _ (h sc e) (λ v. then_shallow (all_parts f sc es) _ (parts_shallow sc es) (λ vs. zero_least))
    where
      zero_least : 0 ≤ 0
      zero_least = omega arith

  let_shallow : (bs : Binders) (e : Tree) (sc : Scope) → IsShallow (let_of f bs e sc)
  let_shallow no_binders e sc = h sc e
  let_shallow (binder p a bs) e sc =
      then_shallow (f sc a) _ (h sc a) (λ v. given_shallow (bound p v sc.names) _ (λ names. let_shallow bs e (with_names sc names)))

  at_shallow : (bs : Binders) (vs : List Value) (sc : Scope) (e : Tree) (i : ℕ) → IsShallow (out_at f bs vs sc e i)
  at_shallow bs vs sc e i = given_shallow (scope_at bs vs sc i) _ (λ inner. h inner e)

  kept_shallow : (i : ℕ) (v : Value) → IsShallow (place_if_true i v)
  kept_shallow i v = given_shallow (as_bool v) _ (λ b. zero_least)
    where
      zero_least : 0 ≤ 0
      zero_least = omega arith

  counted_shallow : (v : Value) → IsShallow (body_value v)
  counted_shallow v = omega arith

  sequence_of_shallow : (us : List Value) → IsShallow {X = Value} (value (values.sequence us) 0 0)
  sequence_of_shallow us = omega arith

  bodies_shallow : (bs : Binders) (vs : List Value) (sc : Scope) (e : Tree) (is : List ℕ) → IsShallow (body_values f bs vs sc e is)
  bodies_shallow bs vs sc e is =
      then_shallow _ _ (all_shallow _ is (λ i. then_shallow _ body_value (at_shallow bs vs sc e i) counted_shallow)) sequence_of_shallow

  filters_shallow : (bs : Binders) (vs : List Value) (sc : Scope) (e : Tree) (is : List ℕ) → IsShallow (kept_places f bs vs sc e is)
  filters_shallow bs vs sc e is = all_shallow _ is (λ i. then_shallow _ (place_if_true i) (at_shallow bs vs sc e i) (kept_shallow i))

  places_shallow : (s : Span) (ns : List ℕ) → IsShallow (common_places s ns)
  places_shallow s [] = tt
  places_shallow s (n ∷ ns) = by (list_all (λ m. m == n) ns)
    where
      by : (b : Bool) → IsShallow (if b then value (range_with_len 0 n) 0 0 else fault trap.Length s 0)
      by true = omega arith
      by false = tt

  over_shallow : (s : Span) (bs : Binders) (sc : Scope) (k : List Value → List ℕ → Out Value) → ((vs : List Value) (is : List ℕ) → IsShallow (k vs is)) →
      IsShallow (over_places f s bs sc k)
  over_shallow s bs sc k i =
      then_shallow _ _ (parts_shallow sc (sources bs)) (λ vs. given_shallow (lengths vs) _ (λ ns. then_shallow _ (k vs) (places_shallow s ns) (i vs)))

  node_shallow : (env : Environment) (sc : Scope) (e : Tree) → IsShallow (node_of f env sc e)
  node_shallow env sc (node s (trees.number n)) = omega arith
  node_shallow env sc (node s (trees.truth b)) = omega arith
  node_shallow env sc (node s (trees.character c)) = omega arith
  node_shallow env sc (node s (trees.text cs)) = omega arith
  node_shallow env sc (node s (trees.variable x)) = variable_shallow (look_up sc.names x) (look_up env x)
  node_shallow env sc (node s (trees.call x a)) = then_shallow (f sc a) _ (h sc a) (called_shallow s (builtin_named x) (look_up env x))
  node_shallow env sc (node s (trees.pair a b)) = two_shallow sc a b _ (λ x y. made_shallow s (values.pair x y))
  node_shallow env sc (node s (trees.prefix_of o a)) = then_shallow (f sc a) _ (h sc a) (applied_shallow s (prefix_builtin o))
  node_shallow env sc (node s (trees.infix_of o a b)) = two_shallow sc a b _ (λ x y. applied_shallow s (infix_builtin o) (values.pair x y))
  node_shallow env sc (node s (trees.index a b)) = two_shallow sc a b _ (λ x y. applied_shallow s (OfSequences seq.ElementAt) (values.pair x y))
  node_shallow env sc (node s (trees.choice a b c)) = then_shallow (f sc a) _ (h sc a) (λ x. branch_shallow (as_bool x) (f sc b) (f sc c) (h sc b) (h sc c))
  node_shallow env sc (node s (trees.sequence es)) = then_shallow _ _ (parts_shallow sc es) (λ vs. made_shallow s (values.sequence vs))
  node_shallow env sc (node s (trees.empty t)) = omega arith
  node_shallow env sc (node s (trees.range a b)) = two_shallow sc a b _ (λ x y. applied_shallow s (OfSequences seq.Range) (values.pair x y))
  node_shallow env sc (node s (trees.strided_range a b c)) =
      then_shallow (f sc a) _ (h sc a) (λ x. two_shallow sc b c _ (λ y z. applied_shallow s (OfSequences seq.RangeBy) (values.pair x (values.pair y z))))
  node_shallow env sc (node s (trees.let_in bs e)) = let_shallow bs e sc
  node_shallow env sc (node s (trees.each e bs)) = over_shallow s bs sc _ (λ vs is. bodies_shallow bs vs sc e is)
  node_shallow env sc (node s (trees.filtered_each e bs c)) =
      over_shallow s bs sc _ (λ vs is. then_shallow _ (body_values f bs vs sc e) (filters_shallow bs vs sc c is) (bodies_shallow bs vs sc e))
  node_shallow env sc (node s trees.element) = given_shallow sc.element _ (λ v. zero_least)
    where
      zero_least : 0 ≤ 0
      zero_least = omega arith

out_shallow : (n : ℕ) (env : Environment) (sc : Scope) (e : Tree) → IsShallow (out n env sc e)
unfolding out
out_shallow zero env sc e = tt
out_shallow (suc n) env sc e =
    after 1 1 (node_of (out n env) env sc e) (omega arith) (node_shallow (out n env) (out_shallow n env) env sc e)

counts : {X : Type 0} (o : Out X) → CostsOne (after_cost 1 1 o)
counts stuck = tt
counts (fault t s w) = omega arith
counts (value x w d) = (omega arith, omega arith)

out_counts : (n : ℕ) (env : Environment) (sc : Scope) (e : Tree) → CostsOne (out (suc n) env sc e)
unfolding out
out_counts n env sc e = counts (node_of (out n env) env sc e)

pub depth_within_work : DepthWithinWork
depth_within_work n env sc e = (out_shallow n env sc e, out_counts n env sc e)
