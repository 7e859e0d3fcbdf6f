-- Runs that write down what is traced, one after the other.
use Rattle.std.proofs.Common.{◌≡◌, ℕ, ◌+◌, ◌<◌, inl, inr, refl, sym, ◌∙◌, ap, subst, arith, List, ◌++◌, append_assoc, append-nil, Result, Ok, Err, Global}
use Rattle.nesl_values.specs.View.{tree_of}
use Rattle.nesl_values.specs.declared.value.Value as code
use Rattle.nesl_eval_meaning.specs.Names.{Value}
use Rattle.nesl_eval_nodes.specs.Meets.{Is}
use Rattle.nesl_cost_meaning.specs.Cost.{Cost, free, after, work_in}
use Rattle.nesl_cost_meaning.specs.Traced.{Traced, value, fault, stuck, after_cost, and_then}
use Rattle.nesl_cost_rows.specs.Written.{Note, written}
use Rattle.nesl_cost_eval.specs.declared.unfinished.Unfinished.{Unfinished}
use Rattle.nesl_cost_eval.specs.declared.unfinished.Unfinished.TheVariants.{Fault, Over, Memory, Stuck}
use Rattle.nesl_cost_eval.specs.Writes.{Book, Adds, Lacks, Writes}

-- the value of a node is this tree, where nothing shows the allocator
abbrev pub IsOf : (A : Type 0) → code.Value A → Value → Type 0
IsOf A = Is

pub adds_free : (a : Book) → Adds a a free
adds_free a = (sym (append-nil a.notes), omega arith)

pub adds_then : (a b d : Book) (c e : Cost) → Adds a b c → Adds b d e → Adds a d (after c e)
adds_then a b d c e h i = (
  i.0 ∙ ap (λ (l : List Note). l ++ written e) h.0 ∙ append_assoc a.notes (written c) (written e),
  omega (arith, h.1, i.1),
)

pub memory_any : {R X : Type 0} (T : R → X → Type 0) (a b : Book) (o : Traced X) → Writes T a (Err Memory) b o
memory_any T a b (value x c) = tt
memory_any T a b (fault t s p c) = tt
memory_any T a b stuck = tt

-- where memory or fuel lacks
pub over_any : {R X : Type 0} (T : R → X → Type 0) (a b : Book) (w : ℕ) (c : Cost) (o : Traced X) → w ≡ work_in c → a.fuel < w →
    Writes T a (Err Over) b (after_cost c o)
over_any T a b w c (value x e) p h = omega (arith, p, h)
over_any T a b w c (fault t s q e) p h = omega (arith, p, h)
over_any T a b w c stuck p h = tt

pub lacking : {R X : Type 0} (T : R → X → Type 0) (a b : Book) (w : ℕ) (c : Cost) (e : Unfinished) (o : Traced X) → w ≡ work_in c → Lacks a w e →
    Writes T a (Err e) b (after_cost c o)
lacking T a b w c e o p (inl h) = subst (λ (k : Unfinished). Writes T a (Err k) b (after_cost c o)) (sym h) (memory_any T a b (after_cost c o))
lacking T a b w c e o p (inr h) = subst (λ (k : Unfinished). Writes T a (Err k) b (after_cost c o)) (sym h.0) (over_any T a b w c o p h.1)

pub costing : {R X : Type 0} (T : R → X → Type 0) (c : Cost) (r : Result R Unfinished) (a b d : Book) (o : Traced X) →
    Adds a b c → Writes T b r d o → Writes T a r d (after_cost c o)
costing T c r a b d stuck h i = tt
costing T c (Ok v) a b d (value x k) h i = (i.0, adds_then a b d c k h i.1)
costing T c (Ok v) a b d (fault t s p k) h i = i
costing T c (Err (Fault u j q)) a b d (value x k) h i = i
costing T c (Err (Fault u j q)) a b d (fault t s p k) h i = (i.0, i.1, i.2, adds_then a b d c k h i.3)
costing T c (Err Over) a b d (value x k) h i = omega (arith, h.1, i)
costing T c (Err Over) a b d (fault t s p k) h i = omega (arith, h.1, i)
costing T c (Err Memory) a b d (value x k) h i = tt
costing T c (Err Memory) a b d (fault t s p k) h i = tt
costing T c (Err Stuck) a b d (value x k) h i = i
costing T c (Err Stuck) a b d (fault t s p k) h i = i

-- one run, and then another
pub chained : {R S X Y : Type 0} (T : R → X → Type 0) (U : S → Y → Type 0) (v : R) (r : Result S Unfinished) (a b d : Book) (o : Traced X) (k : X → Traced Y) →
    Writes T a (Ok v) b o → ((x : X) → T v x → Writes U b r d (k x)) → Writes U a r d (and_then o k)
chained T U v r a b d stuck k h i = tt
chained T U v r a b d (value x c) k h i = costing U c r a b d (k x) h.1 (i x h.0)
chained T U v r a b d (fault t s p c) k h i = absurd h

pub chained_value : {A S Y : Type 0} (U : S → Y → Type 0) (v : code.Value A) (r : Result S Unfinished) (a b d : Book) (o : Traced Value) (k : Value → Traced Y) →
    Writes Is a (Ok v) b o → Writes U b r d (k (tree_of v)) → Writes U a r d (and_then o k)
chained_value U v r a b d o k h i =
    chained Is U v r a b d o k h (λ x e. subst (λ (y : Value). Writes U b r d (k y)) e i)

-- a run that ended without a value
pub stopped : {R S X Y : Type 0} (T : R → X → Type 0) (U : S → Y → Type 0) (e : Unfinished) (a b : Book) (o : Traced X) (k : X → Traced Y) →
    Writes T a (Err e) b o → Writes U a (Err e) b (and_then o k)
stopped T U e a b stuck k h = tt
stopped T U (Fault u j q) a b (value x c) k h = absurd h
stopped T U Over a b (value x c) k h = over_any U a b (work_in c) c (k x) refl h
stopped T U Memory a b (value x c) k h = memory_any U a b (after_cost c (k x))
stopped T U Stuck a b (value x c) k h = absurd h
stopped T U (Fault u j q) a b (fault t s p c) k h = h
stopped T U Over a b (fault t s p c) k h = h
stopped T U Memory a b (fault t s p c) k h = tt
stopped T U Stuck a b (fault t s p c) k h = absurd h

-- what is said of a run without a value doesn't depend on values
pub err_same : {R S X : Type 0} (T : R → X → Type 0) (U : S → X → Type 0) (e : Unfinished) (a b : Book) (o : Traced X) → Writes T a (Err e) b o → Writes U a (Err e) b o
err_same T U e a b stuck h = tt
err_same T U (Fault u j q) a b (value x c) h = absurd h
err_same T U Over a b (value x c) h = h
err_same T U Memory a b (value x c) h = tt
err_same T U Stuck a b (value x c) h = absurd h
err_same T U (Fault u j q) a b (fault t s p c) h = h
err_same T U Over a b (fault t s p c) h = h
err_same T U Memory a b (fault t s p c) h = tt
err_same T U Stuck a b (fault t s p c) h = absurd h

pub ok_same : {R S X : Type 0} (T : R → X → Type 0) (U : S → X → Type 0) (v : R) (w : S) (a b : Book) (o : Traced X) → ((x : X) → T v x → U w x) →
    Writes T a (Ok v) b o → Writes U a (Ok w) b o
ok_same T U v w a b stuck f h = tt
ok_same T U v w a b (value x c) f h = (f x h.0, h.1)
ok_same T U v w a b (fault t s p c) f h = absurd h

pub retold : {R X : Type 0} (T : R → X → Type 0) (r : Result R Unfinished) (a b : Book) (o u : Traced X) → o ≡ u → Writes T a r b u → Writes T a r b o
retold {R} {X} T r a b o u e h = subst (λ (x : Traced X). Writes T a r b x) (sym e) h

pub same_books : {R X : Type 0} (T : R → X → Type 0) (r : Result R Unfinished) (a b c d : Book) (o : Traced X) → a ≡ c → b ≡ d → Writes T c r d o → Writes T a r b o
same_books T r a b c d o p q h = subst (λ (x : Book). Writes T x r b o) (sym p) (subst (λ (x : Book). Writes T c r x o) (sym q) h)

pub free_value : {R X : Type 0} (T : R → X → Type 0) (v : R) (x : X) (a : Book) → T v x → Writes T a (Ok v) a (value x free)
free_value T v x a h = (h, adds_free a)

-- whatever is written from the one book on for what is left is written from the other one for the whole
abbrev pub LeadsTo : Book → Traced Value → Book → Traced Value → Type 0
LeadsTo b p a o = (r : Result (code.Value Global) Unfinished) (d : Book) → Writes Is b r d p → Writes Is a r d o
