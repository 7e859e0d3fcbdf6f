-- Values of nodes at a place, with what they cost.
use Rattle.std.proofs.Common.{◌≡◌, ℕ, zero, suc, ◌+◌, ◌-◌, ◌<◌, Bool, refl, ap, ◌∙◌, arith, subst, ◌≤◌, true, false, nat_le}
use Rattle.nesl_lex.specs.declared.token.Span.{Span}
use Rattle.nesl_values.specs.Tree.{pair, size}
use Rattle.nesl_scalars.specs.declared.binary.Binary.{Binary}
use Rattle.nesl_scalars.specs.Outcomes.{gives}
use Rattle.nesl_scalars.specs.Scalars.{binary}
use Rattle.nesl_builtins.specs.declared.builtin.Builtin.{Builtin}
use Rattle.nesl_builtins.specs.declared.builtin.Builtin.TheVariants.{OfTwo, OfSequences}
use Rattle.nesl_eval_code.specs.declared.code.Code.{Code}
use Rattle.nesl_eval_meaning.specs.Names.{Value}
use Rattle.nesl_eval_code.specs.Frames.{Frames}
use Rattle.nesl_eval_meaning.specs.Out.{Out, value, fault, stuck, after_cost, and_then}
use Rattle.nesl_eval_meaning.specs.Outcome.{apply_builtin, on_scalars, on_sequence, small_enough}
use Rattle.nesl_eval_code.specs.Run.{Runs, Table, run, run_node, run_two}
use Rattle.nesl_seqs_base.specs.declared.seq_fn.SeqFn.TheVariants.{ElementAt}
use Rattle.nesl_eval_column_results.specs.Picked.{Picks}
use Rattle.std.proofs.lemmas.Bool.Decides.{nat_tests}

-- a value with other numbers
pub cost_is : {X : Type 0} (v : X) (m n i j : ℕ) → m ≡ n → i ≡ j → value v m i ≡ value v n j
cost_is v m n i j e f = cc

-- a node that is entered
pub entered_at : (n m : ℕ) (t : Table) (fs : Frames) (c : Code) (v : Value) → 0 < n → run_node (run (n - 1) t) t fs c ≡ value v m m → run n t fs c ≡ value v (m + 1) (m + 1)
unfolding run
entered_at zero m t fs c v some h = absurd (omega arith)
entered_at (suc n) m t fs c v some h =
    let same : suc n - 1 ≡ n = omega arith in
    let e : run_node (run n t) t fs c ≡ value v m m = subst (λ k. run_node (run k t) t fs c ≡ value v m m) same h in
    ap (after_cost 1 1) e ∙ cost_is v (1 + m) (m + 1) (1 + m) (m + 1) (omega arith) (omega arith)

-- a function of two scalars at a place
pub two_at : (f : Runs) (fs : Frames) (a b : Code) (s : Span) (g : Binary) (x y z : Value) (m n : ℕ) → f fs a ≡ value x m m → f fs b ≡ value y n n → binary g x y ≡ gives z → run_two f fs a b (λ x y. apply_builtin s (OfTwo g) (pair x y)) ≡ value z (m + n) (m + n)
two_at f fs a b s g x y z m n h k e =
    ap (λ o. and_then o (λ x. and_then (f fs b) (λ y. apply_builtin s (OfTwo g) (pair x y)))) h
    ∙ ap (λ o. after_cost m m (and_then o (λ y. apply_builtin s (OfTwo g) (pair x y)))) k
    ∙ ap (λ o. after_cost m m (after_cost n n (on_scalars s o))) e
    ∙ cost_is z (m + (n + 0)) (m + n) (m + (n + 0)) (m + n) (omega arith) (omega arith)

-- a function of one argument that costs nothing more
pub applied_at : (o : Out Value) (s : Span) (g : Builtin) (x z : Value) (m : ℕ) → o ≡ value x m m → apply_builtin s g x ≡ value z 0 0 → and_then o (apply_builtin s g) ≡ value z m m
applied_at o s g x z m h e =
    ap (λ o. and_then o (apply_builtin s g)) h ∙ ap (after_cost m m) e ∙ cost_is z (m + 0) m (m + 0) m (omega arith) (omega arith)

-- costs one after the other
pub added_added : {X : Type 0} (w d w' d' : ℕ) (o : Out X) → after_cost (w + w') (d + d') o ≡ after_cost w d (after_cost w' d' o)
added_added w d w' d' (value x v e) = cost_is x (w + w' + v) (w + (w' + v)) (d + d' + e) (d + (d' + e)) (omega arith) (omega arith)
added_added w d w' d' (fault t s v) = ap (λ a. fault t s a) (omega arith)
added_added w d w' d' stuck = refl

-- an element at a place
pub element_at : (f : Runs) (fs : Frames) (a b : Code) (s : Span) (v x z : Value) (m n : ℕ) → f fs a ≡ value v m m → f fs b ≡ value x n n → Picks v x z → run_two f fs a b (λ x y. apply_builtin s (OfSequences ElementAt) (pair x y)) ≡ value z (m + n) (m + n)
element_at f fs a b s v x z m n h k e =
    ap (λ o. and_then o (λ x. and_then (f fs b) (λ y. apply_builtin s (OfSequences ElementAt) (pair x y)))) h
    ∙ ap (λ o. after_cost m m (and_then o (λ y. apply_builtin s (OfSequences ElementAt) (pair v y)))) k
    ∙ ap (λ o. after_cost m m (after_cost n n (on_sequence s ElementAt (pair v x) o))) e.0
    ∙ cost_is z (m + (n + (0 + (size z - 1)))) (m + n) (m + (n + 0)) (m + n) (omega (arith, e.1)) (omega arith)

-- a value of few nodes
few_nodes : (s : Span) (v : Value) → size v ≤ 1048576 → small_enough s v ≡ value v 0 0
few_nodes s v few = by_test (nat_le (size v) 1048576) refl
  where
    by_test : (q : Bool) → nat_le (size v) 1048576 ≡ q → small_enough s v ≡ value v 0 0
    by_test true e = rw e refl
    by_test false e = absurd (grind (arith, nat_tests))

-- a pair at a place
pub made_at : (f : Runs) (fs : Frames) (a b : Code) (s : Span) (x y : Value) (m n : ℕ) → f fs a ≡ value x m m → f fs b ≡ value y n n → size (pair x y) ≤ 1048576 → run_two f fs a b (λ x y. small_enough s (pair x y)) ≡ value (pair x y) (m + n) (m + n)
made_at f fs a b s x y m n h k few =
    ap (λ o. and_then o (λ x. and_then (f fs b) (λ y. small_enough s (pair x y)))) h
    ∙ ap (λ o. after_cost m m (and_then o (λ y. small_enough s (pair x y)))) k
    ∙ ap (λ o. after_cost m m (after_cost n n o)) (few_nodes s (pair x y) few)
    ∙ cost_is (pair x y) (m + (n + 0)) (m + n) (m + (n + 0)) (m + n) (omega arith) (omega arith)
