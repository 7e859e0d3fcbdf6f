-- What is found for a node, from what is found for its parts.
use Rattle.std.proofs.Common.{◌≡◌, ℕ, ◌+◌, ◌-◌, ◌<◌, List, [], ◌∷◌, ◌++◌, Option, Some, refl, sym, ap, ◌∙◌, subst, arith}
use Rattle.std.specs.Prelude.{slice_get}
use Rattle.std.proofs.lemmas.List.{map-append}
use Rattle.std.proofs.lemmas.Option.{same_Some}
use Rattle.nesl_lex.specs.declared.token.Span.{Span}
use Rattle.nesl_values.specs.Tree.{pair}
use Rattle.nesl_scalars.specs.declared.binary.Binary.{Binary}
use Rattle.nesl_scalars.specs.Outcomes.{gives}
use Rattle.nesl_scalars.specs.Scalars.{binary}
use Rattle.nesl_builtins.specs.declared.builtin.Builtin.{Builtin}
use Rattle.nesl_builtins.specs.declared.builtin.Builtin.TheVariants.{OfTwo, OfSequences}
use Rattle.nesl_seqs_base.specs.declared.seq_fn.SeqFn.TheVariants.{ElementAt}
use Rattle.nesl_eval_code.specs.declared.code.Code.{Code}
use Rattle.nesl_eval_meaning.specs.Names.{Value}
use Rattle.nesl_eval_code.specs.Frames.{Frames, frame}
use Rattle.nesl_eval_meaning.specs.Out.{Out, value, fault, stuck, after_cost, and_then, at_call}
use Rattle.nesl_eval_meaning.specs.Outcome.{small_enough, apply_builtin}
use Rattle.nesl_eval_code.specs.Run.{Runs, Table, run, run_node, run_two, run_let, run_called, Slot, function_slot}
use Rattle.nesl_eval_columns.specs.Each.{EachTwo}
use Rattle.nesl_eval_columns.specs.Columns.{Makes}
use Rattle.nesl_eval_column_results.specs.declared.columns.Columns.{Columns}
use Rattle.nesl_eval_column_results.specs.Columns.{value_at, SameUpTo, Pairs, Applies}
use Rattle.nesl_eval_column_results.specs.Costs.{Sums}
use Rattle.nesl_eval_column_results.specs.Picked.{Picks}
use Rattle.nesl_eval_column_results.specs.Frames.{bound_at, IsAt, AreAt}
use Rattle.nesl_eval_plain.proofs.Costed.{entered_at, applied_at, two_at, added_added, element_at, made_at}
use Rattle.nesl_eval_column_results.proofs.Each.{each_at, three_at}

-- the same outcomes
pub at_so : (p q : Frames → Out Value) (at : ℕ → Option Frames) (vs : ℕ → Option Value) (ns : ℕ → Option ℕ) → ((fs : Frames) → p fs ≡ q fs) → AreAt q at vs ns → AreAt p at vs ns
at_so p q at vs ns law h = λ k fs e. subst (IsAt vs ns k) (sym (law fs)) (h k fs e)

-- the same values
pub same_find : (p : Frames → Out Value) (at : ℕ → Option Frames) (n : ℕ) (xs ys : ℕ → Option Value) (ms : ℕ → Option ℕ) → ((k : ℕ) (fs : Frames) → at k ≡ Some fs → k < n) → SameUpTo n xs ys → AreAt p at xs ms → AreAt p at ys ms
same_find p at n xs ys ms within same h = λ k fs e.
    let x = h k fs e in
    (x.0, x.1, same k (within k fs e) ∙ x.2, x.3, x.4)

-- a node that is entered
pub entered_finds : (n : ℕ) (t : Table) (c : Code) (at : ℕ → Option Frames) (vs ws : ℕ → Option Value) (ms ns : ℕ → Option ℕ) → 0 < n → ws ≡ vs → Sums ms (λ k. Some 1) ns → AreAt (λ fs. run_node (run (n - 1) t) t fs c) at vs ms → AreAt (λ fs. run n t fs c) at ws ns
entered_finds n t c at vs ws ms ns some e sums h = λ k fs q.
    let x = h k fs q in
    (x.0, x.1 + 1, ap (λ us. us k) e ∙ x.2, sums k x.1 1 x.3 refl, entered_at n x.1 t fs c x.0 some x.4)

-- functions of scalars
pub two_finds : (f : Runs) (at : ℕ → Option Frames) (a b : Code) (s : Span) (g : Binary) (ms ns os : ℕ → Option ℕ) (xs ys zs : List Value) → AreAt (λ fs. f fs a) at (slice_get xs) ms → AreAt (λ fs. f fs b) at (slice_get ys) ns → Makes g xs ys zs → Sums ms ns os → AreAt (λ fs. run_two f fs a b (λ x y. apply_builtin s (OfTwo g) (pair x y))) at (slice_get zs) os
two_finds f at a b s g ms ns os xs ys zs h i e sums = λ k fs q.
    let x = h k fs q in
    let y = i k fs q in
    let z = three_at (λ x y z. binary g x y ≡ gives z) xs ys zs k x.0 y.0 e x.2 y.2 in
    (z.0, x.1 + y.1, z.1, sums k x.1 y.1 x.3 y.3, two_at f fs a b s g x.0 y.0 z.0 x.1 y.1 x.4 y.4 z.2)

pub applied_finds : {A : Type 0} (p : Frames → Out Value) (at : ℕ → Option Frames) (s : Span) (g : Builtin) (n : ℕ) (xs : ℕ → Option Value) (c : Columns A) (ms : ℕ → Option ℕ) → ((k : ℕ) (fs : Frames) → at k ≡ Some fs → k < n) → Applies g s n xs c → AreAt p at xs ms → AreAt (λ fs. and_then (p fs) (apply_builtin s g)) at (value_at c) ms
applied_finds p at s g n xs c ms within so h = λ k fs e.
    let x = h k fs e in
    let y = so k x.0 (within k fs e) x.2 in
    (y.0, x.1, y.1, x.3, applied_at (p fs) s g x.0 y.0 x.1 x.4 y.2)

-- the pairs of two parts
pub pairs_find : (f : Runs) (at : ℕ → Option Frames) (a b : Code) (s : Span) (ms ns os : ℕ → Option ℕ) (xs ys zs : ℕ → Option Value) → AreAt (λ fs. f fs a) at xs ms → AreAt (λ fs. f fs b) at ys ns → Pairs xs ys zs → Sums ms ns os → AreAt (λ fs. run_two f fs a b (λ x y. small_enough s (pair x y))) at zs os
pairs_find f at a b s ms ns os xs ys zs h i made sums = λ k fs q.
    let x = h k fs q in
    let y = i k fs q in
    let z = made k x.0 y.0 x.2 y.2 in
    (pair x.0 y.0, x.1 + y.1, z.0, sums k x.1 y.1 x.3 y.3, made_at f fs a b s x.0 y.0 x.1 y.1 x.4 y.4 z.1)

-- elements of a sequence that is the same at all turns
pub element_finds : (f : Runs) (at : ℕ → Option Frames) (a b : Code) (s : Span) (v : Value) (ws : ℕ → Option Value) (ms ns os : ℕ → Option ℕ) (xs zs : List Value) → ((k : ℕ) → ws k ≡ Some v) → AreAt (λ fs. f fs a) at ws ms → AreAt (λ fs. f fs b) at (slice_get xs) ns → EachTwo (Picks v) xs zs → Sums ms ns os → AreAt (λ fs. run_two f fs a b (λ x y. apply_builtin s (OfSequences ElementAt) (pair x y))) at (slice_get zs) os
element_finds f at a b s v ws ms ns os xs zs same h i e sums = λ k fs q.
    let w = h k fs q in
    let x = i k fs q in
    let own : v ≡ w.0 = same_Some v w.0 (sym (same k) ∙ w.2) in
    let z = each_at (Picks v) xs zs k x.0 e x.2 in
    (z.0, w.1 + x.1, z.1, sums k w.1 x.1 w.3 x.3, element_at f fs a b s v x.0 z.0 w.1 x.1 (w.4 ∙ ap (λ u. value u w.1 w.1) (sym own)) x.4 z.2)

-- a call, whose body sees the argument alone
pub call_finds : (f g : Runs) (at inner : ℕ → Option Frames) (a body : Code) (s : Span) (o : Option Slot) (xs vs : ℕ → Option Value) (ms ns os : ℕ → Option ℕ) → o ≡ Some (function_slot body) → g ≡ f → AreAt (λ fs. f fs a) at xs ms → AreAt (λ fs. g fs body) inner vs ns → ((k : ℕ) (fs : Frames) → at k ≡ Some fs → inner k ≡ Some ((xs k ∷ []) ∷ [])) → Sums ms ns os → AreAt (λ fs. and_then (f fs a) (run_called f s o)) at vs os
call_finds f g at inner a body s o xs vs ms ns os is same h i under sums = λ k fs q.
    let x = h k fs q in
    let y = subst (λ r. AreAt (λ gs. r gs body) inner vs ns) same i k ((Some x.0 ∷ []) ∷ []) (under k fs q ∙ ap (λ u. Some ((u ∷ []) ∷ [])) x.2) in (
      y.0,
      x.1 + y.1,
      y.2,
      sums k x.1 y.1 x.3 y.3,
      ap (λ p. and_then p (run_called f s o)) x.4
          ∙ ap (λ p. after_cost x.1 x.1 (run_called f s p x.0)) is
          ∙ ap (λ p. after_cost x.1 x.1 (at_call s p)) y.4,
    )

-- the bindings of a `let`, of which some have been evaluated
abbrev pub let_from : Runs → Frames → List (Option Value) → List Code → Code → Out Value
let_from f fs os [] e = f (os ∷ fs) e
let_from f fs os (c ∷ cs) e = and_then (f (os ∷ fs) c) (λ v. let_from f fs (os ++ Some v ∷ []) cs e)

then_so : {X Y : Type 0} (o : Out X) (j k : X → Out Y) → ((x : X) → j x ≡ k x) → and_then o j ≡ and_then o k
then_so (value x w d) j k law = ap (after_cost w d) (law x)
then_so (fault t s w) j k law = refl
then_so stuck j k law = refl

let_is : (f : Runs) (fs : Frames) (vs : List Value) (cs : List Code) (e : Code) → run_let f fs vs cs e ≡ let_from f fs (frame vs) cs e
let_is f fs vs [] e = refl
let_is f fs vs (c ∷ cs) e =
    then_so (f (frame vs ∷ fs) c) (λ v. run_let f fs (vs ++ v ∷ []) cs e) (λ v. let_from f fs (frame vs ++ Some v ∷ []) cs e)
    (λ v. let_is f fs (vs ++ v ∷ []) cs e ∙ ap (λ os. let_from f fs os cs e) (map-append Some vs (v ∷ [])))

-- so far the bindings have evaluated to these values, at these costs
abbrev pub Along : {A : Type 0} → Runs → (ℕ → Option Frames) → List Code → Code → List (Columns A) → List Code → (ℕ → Option ℕ) → Type 0
Along f at cs e us rest ns = (k : ℕ) (fs : Frames) → at k ≡ Some fs → (n : ℕ) × (ns k ≡ Some n) × (let_from f fs [] cs e ≡ after_cost n n (let_from f fs (bound_at us k) rest e))

added_none : {X : Type 0} (o : Out X) → o ≡ after_cost 0 0 o
added_none (value x w d) = cost_so x w (0 + w) d (0 + d) (omega arith) (omega arith)
  where
    cost_so : {X : Type 0} (x : X) (m n i j : ℕ) → m ≡ n → i ≡ j → value x m i ≡ value x n j
    cost_so x m n i j e f = cc
added_none (fault t s w) = ap (λ v. fault t s v) (omega arith)
added_none stuck = refl

pub along_begun : {A : Type 0} (f : Runs) (at : ℕ → Option Frames) (cs : List Code) (e : Code) (us : List (Columns A)) → us ≡ [] → Along f at cs e us cs (λ k. Some 0)
along_begun f at cs e us none = λ k fs q. (0, refl, added_none (let_from f fs [] cs e) ∙ ap (λ ws. after_cost 0 0 (let_from f fs (bound_at ws k) cs e)) (sym none))

pub along_next : {A : Type 0} (f g : Runs) (at inner : ℕ → Option Frames) (cs : List Code) (e c : Code) (us ws : List (Columns A)) (u : Columns A) (rest more : List Code) (ns ms os : ℕ → Option ℕ) → more ≡ c ∷ rest → g ≡ f → Along f at cs e us more ns → AreAt (λ fs. g fs c) inner (value_at u) ms → ((k : ℕ) (fs : Frames) → at k ≡ Some fs → inner k ≡ Some (bound_at us k ∷ fs)) → ws ≡ us ++ u ∷ [] → Sums ns ms os → Along f at cs e ws rest os
along_next f g at inner cs e c us ws u rest more ns ms os splits same so h under is sums = λ k fs q.
    let x = so k fs q in
    let y = subst (λ r. AreAt (λ gs. r gs c) inner (value_at u) ms) same h k (bound_at us k ∷ fs) (under k fs q) in
    let its : bound_at ws k ≡ bound_at us k ++ Some y.0 ∷ [] =
    ap (λ ds. bound_at ds k) is ∙ map-append (λ d. value_at d k) us (u ∷ []) ∙ ap (λ o. bound_at us k ++ o ∷ []) y.2 in (
      x.0 + y.1,
      sums k x.0 y.1 x.1 y.3,
      x.2 ∙ ap (λ ds. after_cost x.0 x.0 (let_from f fs (bound_at us k) ds e)) splits
          ∙ ap (λ o. after_cost x.0 x.0 (and_then o (λ v. let_from f fs (bound_at us k ++ Some v ∷ []) rest e))) y.4
          ∙ sym (added_added x.0 x.0 y.1 y.1 (let_from f fs (bound_at us k ++ Some y.0 ∷ []) rest e))
          ∙ ap (λ ps. after_cost (x.0 + y.1) (x.0 + y.1) (let_from f fs ps rest e)) (sym its),
    )

pub along_done : {A : Type 0} (f g : Runs) (at inner : ℕ → Option Frames) (cs : List Code) (e : Code) (us : List (Columns A)) (rest : List Code) (vs : ℕ → Option Value) (ns ms os : ℕ → Option ℕ) → rest ≡ [] → g ≡ f → Along f at cs e us rest ns → AreAt (λ fs. g fs e) inner vs ms → ((k : ℕ) (fs : Frames) → at k ≡ Some fs → inner k ≡ Some (bound_at us k ∷ fs)) → Sums ns ms os → AreAt (λ fs. run_let f fs [] cs e) at vs os
along_done f g at inner cs e us rest vs ns ms os none same so h under sums = λ k fs q.
    let x = so k fs q in
    let y = subst (λ r. AreAt (λ gs. r gs e) inner vs ms) same h k (bound_at us k ∷ fs) (under k fs q) in (
      y.0,
      x.0 + y.1,
      y.2,
      sums k x.0 y.1 x.1 y.3,
      let_is f fs [] cs e ∙ x.2 ∙ ap (λ ds. after_cost x.0 x.0 (let_from f fs (bound_at us k) ds e)) none ∙ ap (after_cost x.0 x.0) y.4,
    )
