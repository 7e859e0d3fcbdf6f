-- Types for the variables of a function's type.
use Rattle.std.proofs.Common.{◌≡◌, ◌<◌, ◌≤◌, ℕ, zero, suc, Bool, true, false, cond, inl, inr, List, [], ◌∷◌, ◌++◌, length, map, refl, sym, ap, ◌∙◌, subst, arith}
use Rattle.std.specs.Prelude.{All, nat_lt, slice_index, ◌||◌}
use Rattle.std.proofs.lemmas.Bool.{cases_lt}
use Rattle.std.proofs.lemmas.Bool.Decides.{nat_tests}
use Rattle.nesl_types.specs.declared.classes.Class.{Class}
use Rattle.nesl_types.specs.declared.classes.Class.TheVariants.{Any, Ordinal, Number, Logical}
use Rattle.nesl_types_shared.specs.Term.{Term, int, bool, char, variable, seq_of, pair_of, named, nodes}
use Rattle.nesl_types.specs.Class.{IsIn, class_at}
use Rattle.nesl_types_shared.specs.Numbering.{IsBelow}
use Rattle.nesl_types_shared.specs.Substitution.{substitute, occurs}
use Rattle.nesl_types_shared.proofs.Substitutions.{substitute-substitute, nodes_of_part}
use Rattle.nesl_unify.proofs.Facts.{substitute_below}
use Rattle.nesl_builtins.specs.FunctionTypes.{FunctionType}
use Rattle.nesl_infer_rules.specs.declared.state.State.{State}
use Rattle.nesl_infer_rules.specs.Typing.{IsInstanceOf}
use Rattle.nesl_infer_rules.specs.Instances.{AreOf, type_in}
use Rattle.nesl_infer_rules.specs.Steps.{count, Gives, Adds}
use Rattle.nesl_infer_rules.proofs.Steps.{gives_then, gives_and, gives_as, adds_from}

pub renamed-below : (n : ℕ) (vs : List ℕ) (t : Term) → All (λ v. v < n) vs → IsBelow (length vs) t → IsBelow n (substitute (λ v. variable (slice_index vs v)) t)
renamed-below n vs int a b = tt
renamed-below n vs bool a b = tt
renamed-below n vs char a b = tt
renamed-below n vs (variable v) a b = a v 0 b
renamed-below n vs (seq_of t) a b = renamed-below n vs t a b
renamed-below n vs (pair_of t u) a b = (renamed-below n vs t a b.0, renamed-below n vs u a b.1)
renamed-below n vs (named k) a b = tt

type_in-map : (s : ℕ → Term) (vs : List ℕ) (v : ℕ) → v < length vs → s (slice_index vs v) ≡ type_in (map s vs) v
type_in-map s [] v b = absurd (omega arith)
type_in-map s (w ∷ vs) zero b = refl
type_in-map s (w ∷ vs) (suc v) b = type_in-map s vs v (omega arith)

pub renamed_is : (s : ℕ → Term) (vs : List ℕ) (t : Term) → IsBelow (length vs) t → substitute s (substitute (λ v. variable (slice_index vs v)) t) ≡ substitute (type_in (map s vs)) t
renamed_is s vs t b =
    substitute-substitute s (λ v. variable (slice_index vs v)) t ∙ substitute_below (length vs) (λ v. s (slice_index vs v)) (type_in (map s vs)) t b (type_in-map s vs)

pub shared_is : (s : ℕ → Term) (vs : List ℕ) (t : Term) → IsBelow (length vs) t → substitute (λ v. s (slice_index vs v)) t ≡ substitute (type_in (map s vs)) t
shared_is s vs t b = substitute_below (length vs) (λ v. s (slice_index vs v)) (type_in (map s vs)) t b (type_in-map s vs)

-- one class more
are-push : (of : ℕ → Class) (cs : List Class) (us : List Term) (c : Class) (u : Term) → AreOf of cs us → IsIn of c u → nodes u ≤ 4096 → AreOf of (cs ++ c ∷ []) (us ++ u ∷ [])
are-push of [] [] c u h i l = (i, l, tt)
are-push of [] (w ∷ us) c u h i l = absurd h
are-push of (d ∷ cs) [] c u h i l = absurd h
are-push of (d ∷ cs) (w ∷ us) c u h i l = (h.0, h.1, are-push of cs us c u h.2 i l)

are-pop : (of : ℕ → Class) (cs : List Class) (c : Class) (us : List Term) → AreOf of (cs ++ c ∷ []) us → (ws : List Term) × (u : Term) × AreOf of cs ws × IsIn of c u × (nodes u ≤ 4096) × (us ≡ ws ++ u ∷ [])
are-pop of [] c [] h = absurd h
are-pop of [] c (u ∷ []) h = ([], u, tt, h.0, h.1, refl)
are-pop of [] c (u ∷ (w ∷ us)) h = absurd h.2
are-pop of (d ∷ cs) c [] h = absurd h
are-pop of (d ∷ cs) c (u ∷ us) h = let k = are-pop of cs c us h.2 in (u ∷ k.0, k.1, (h.0, h.1, k.2), k.3, k.4, ap (λ (l : List Term). u ∷ l) k.5)

pub map-push : (s : ℕ → Term) (vs : List ℕ) (v : ℕ) → map s (vs ++ v ∷ []) ≡ map s vs ++ s v ∷ []
map-push s [] v = refl
map-push s (w ∷ vs) v = ap (λ (l : List Term). s w ∷ l) (map-push s vs v)

abbrev pub Fresh : State → State → List Class → List ℕ → Type 0
Fresh A B cs vs = Gives A B (λ s. map s vs) (λ s of us. AreOf of cs us)

pub fresh_more : {A B C : State} (cs : List Class) (c : Class) (vs : List ℕ) (v : ℕ) → Fresh A B cs vs → Gives B C (λ s. s v) (λ s of u. IsIn of c u × (nodes u ≤ 4096)) → Fresh A C (cs ++ c ∷ []) (vs ++ v ∷ [])
fresh_more {C = C} cs c vs v p h =
    let q = gives_then (λ s of us. AreOf of cs us) (λ x s of u. IsIn of c u × (nodes u ≤ 4096)) p h (λ x s z of y g k. k) in
    gives_as (λ s. map s (vs ++ v ∷ [])) _ (λ s of us. AreOf of (cs ++ c ∷ []) us) q
    (λ s z a. map-push s vs v ∙ ap (λ x. x.0 ++ x.1 ∷ []) (q.fixed s z a) ∙ sym (map-push z vs v))
    (λ s of b k. subst (λ (us : List Term). AreOf of (cs ++ c ∷ []) us) (sym (map-push s vs v)) (are-push of cs (map s vs) c (s v) k.0 k.1.0 k.1.1))
    (λ s of us k. let w = are-pop of cs c us k in ((w.0, w.1), (w.2, (w.3, w.4)), λ z a e. map-push z vs v ∙ ap (λ x. x.0 ++ x.1 ∷ []) e ∙ sym w.5))

pub fresh_none : {A : State} → Fresh A A [] []
fresh_none = record {
  more = omega arith;
  fixed = λ s z a. refl;
  sound = λ s of b h. (h, tt);
  complete = λ s of b h x c. (s, λ _ _. refl, h, b, none_is of x c);
}
  where
    none_is : (of : ℕ → Class) (us : List Term) → AreOf of [] us → [] ≡ us
    none_is of [] h = refl
    none_is of (u ∷ us) h = absurd h

-- what stands for each variable is in its class
are-in : (of : ℕ → Class) (cs : List Class) (us : List Term) → AreOf of cs us → (v : ℕ) → IsIn of (class_at cs v) (type_in us v)
are-in of [] [] h v = tt
are-in of [] (u ∷ us) h v = absurd h
are-in of (c ∷ cs) [] h v = absurd h
are-in of (c ∷ cs) (u ∷ us) h zero = h.0
are-in of (c ∷ cs) (u ∷ us) h (suc v) = are-in of cs us h.2 v

-- the first types, one for each class
pub taken : (ℕ → Term) → List Class → List Term
taken r [] = []
taken r (c ∷ cs) = r 0 ∷ taken (λ v. r (suc v)) cs

taken-are : (of : ℕ → Class) (cs : List Class) (r : ℕ → Term) → ((v : ℕ) → IsIn of (class_at cs v) (r v)) → ((v : ℕ) → nodes (r v) ≤ 4096) → AreOf of cs (taken r cs)
unfolding taken
taken-are of [] r h k = tt
taken-are of (c ∷ cs) r h k = (h 0, k 0, taken-are of cs (λ v. r (suc v)) (λ v. h (suc v)) (λ v. k (suc v)))

taken-at : (cs : List Class) (r : ℕ → Term) (v : ℕ) → v < length cs → r v ≡ type_in (taken r cs) v
unfolding taken
taken-at [] r v b = absurd (omega arith)
taken-at (c ∷ cs) r zero b = refl
taken-at (c ∷ cs) r (suc v) b = taken-at cs (λ w. r (suc w)) v (omega arith)

-- a type that is too large plays no part
pub trimmed : (ℕ → Term) → ℕ → Term
trimmed r v = cond (nat_lt 4096 (nodes (r v))) int (r v)

pub trimmed-small : (r : ℕ → Term) (v : ℕ) → nodes (trimmed r v) ≤ 4096
unfolding trimmed
trimmed-small r v = elim (cases_lt 4096 (nodes (r v))) [ inl l ↦ grind (arith, nat_tests) | inr g ↦ grind (arith, nat_tests) ]

pub trimmed-same : (r : ℕ → Term) (v : ℕ) → nodes (r v) ≤ 4096 → r v ≡ trimmed r v
unfolding trimmed
trimmed-same r v h = grind (arith, nat_tests)

pub int-in : (of : ℕ → Class) (c : Class) → IsIn of c int
int-in of Any = tt
int-in of Ordinal = inl refl
int-in of Number = refl
int-in of Logical = inl refl

pub trimmed-in : (of : ℕ → Class) (c : Class) (r : ℕ → Term) (v : ℕ) → IsIn of c (r v) → IsIn of c (trimmed r v)
unfolding trimmed
trimmed-in of c r v h = by_test (nat_lt 4096 (nodes (r v)))
  where
    by_test : (b : Bool) → IsIn of c (cond b int (r v))
    by_test true = int-in of c
    by_test false = h

or_left : (b c : Bool) → b ≡ true → (b || c) ≡ true
or_left true c h = refl
or_left false c h = cc

or_right : (b c : Bool) → c ≡ true → (b || c) ≡ true
or_right true c h = refl
or_right false c h = h

substitute-where : (n : ℕ) (f g : ℕ → Term) (t : Term) → IsBelow n t → ((v : ℕ) → v < n → occurs v t ≡ true → f v ≡ g v) → substitute f t ≡ substitute g t
substitute-where n f g int b h = refl
substitute-where n f g bool b h = refl
substitute-where n f g char b h = refl
substitute-where n f g (variable v) b h = h v b (grind (arith, nat_tests))
substitute-where n f g (seq_of t) b h = ap seq_of (substitute-where n f g t b h)
substitute-where n f g (pair_of t u) b h =
    let e = substitute-where n f g t b.0 (λ v l o. h v l (or_left (occurs v t) (occurs v u) o)) in
    let d = substitute-where n f g u b.1 (λ v l o. h v l (or_right (occurs v t) (occurs v u) o)) in
    cc
substitute-where n f g (named k) b h = refl

-- the types that are taken give a type as small as the instance
pub taken_is : (cs : List Class) (r : ℕ → Term) (t u : Term) → IsBelow (length cs) t → nodes u ≤ 4096 → u ≡ substitute r t → u ≡ substitute (type_in (taken (trimmed r) cs)) t
taken_is cs r t u b l e =
    e ∙ substitute-where (length cs) r (type_in (taken (trimmed r) cs)) t b
    (λ v k o.
    let part = nodes_of_part r v t o in
    let whole : nodes (substitute r t) ≡ nodes u = sym (ap nodes e) in
    trimmed-same r v (omega arith) ∙ taken-at cs (trimmed r) v k)

pub arm_instance : {A B1 B2 C : State} (f : FunctionType) (vs : List ℕ) (g t : ℕ) → g < count A → t < count A → IsBelow (length f.classes) f.argument → IsBelow (length f.classes) f.result →
    Fresh A B1 f.classes vs → Adds B1 B2 (λ s of. s g ≡ substitute (type_in (map s vs)) f.argument) → Adds B2 C (λ s of. s t ≡ substitute (type_in (map s vs)) f.result) →
    Adds A C (λ s of. IsInstanceOf f of (s g) (s t))
arm_instance f vs g t gi ti ba br p1 p2 p3 =
    let q2 = gives_then (λ s of us. AreOf of f.classes us) (λ x s of y. s g ≡ substitute (type_in x) f.argument) p1 p2 (λ x s z of y a h. sym (a g gi) ∙ h) in
    let q3 = gives_then _ (λ x s of y. s t ≡ substitute (type_in x.0) f.result) q2 p3 (λ x s z of y a h. sym (a t ti) ∙ h) in
    adds_from _ (λ s of. IsInstanceOf f of (s g) (s t)) q3
    (λ s of b h. record { put = type_in (map s vs); within = are-in of f.classes (map s vs) h.0.0; argument = h.0.1; result = h.1 })
    (λ s of b h. (
      ((taken (trimmed h.put) f.classes, tt), tt),
      ((taken-are of f.classes (trimmed h.put) (λ v. trimmed-in of (class_at f.classes v) h.put v (h.within v)) (trimmed-small h.put), taken_is f.classes h.put f.argument (s g) ba (b g) h.argument), taken_is f.classes h.put f.result (s t) br (b t) h.result),
    ))

-- of a function that takes a pair, where each part is given
pub arm_instance_of_two : {A B1 B2 B3 C : State} (f : FunctionType) (l r : Term) (vs : List ℕ) (g h t : ℕ) → f.argument ≡ pair_of l r → g < count A → h < count A → t < count A →
    IsBelow (length f.classes) f.argument → IsBelow (length f.classes) f.result → Fresh A B1 f.classes vs →
    Adds B1 B2 (λ s of. s g ≡ substitute (type_in (map s vs)) l) → Adds B2 B3 (λ s of. s h ≡ substitute (type_in (map s vs)) r) → Adds B3 C (λ s of. s t ≡ substitute (type_in (map s vs)) f.result) →
    Adds A C (λ s of. IsInstanceOf f of (pair_of (s g) (s h)) (s t))
arm_instance_of_two f l r vs g h t e gi hi ti ba br p1 p2 p3 p4 =
    let below : IsBelow (length f.classes) (pair_of l r) = subst (λ (x : Term). IsBelow (length f.classes) x) e ba in
    let q2 = gives_and (λ s of us. AreOf of f.classes us) (λ us s of. s g ≡ substitute (type_in us) l) p1 p2 (λ us s z of a k. sym (a g gi) ∙ k) in
    let q3 = gives_and _ (λ us s of. s h ≡ substitute (type_in us) r) q2 p3 (λ us s z of a k. sym (a h hi) ∙ k) in
    let q4 = gives_and _ (λ us s of. s t ≡ substitute (type_in us) f.result) q3 p4 (λ us s z of a k. sym (a t ti) ∙ k) in
    adds_from _ (λ s of. IsInstanceOf f of (pair_of (s g) (s h)) (s t)) q4
    (λ s of b k. record {
      put = type_in (map s vs);
      within = are-in of f.classes (map s vs) k.0.0.0;
      argument =
          let one = k.0.0.1 in
          let two = k.0.1 in
          let whole : pair_of (s g) (s h) ≡ substitute (type_in (map s vs)) (pair_of l r) = cc in
          whole ∙ ap (substitute (type_in (map s vs))) (sym e);
      result = k.1;
    })
    (λ s of b k.
    let whole : pair_of (s g) (s h) ≡ pair_of (substitute k.put l) (substitute k.put r) = k.argument ∙ ap (substitute k.put) e in
    let one : s g ≡ substitute k.put l = cc in
    let two : s h ≡ substitute k.put r = cc in (
      taken (trimmed k.put) f.classes,
      (
        ((taken-are of f.classes (trimmed k.put) (λ v. trimmed-in of (class_at f.classes v) k.put v (k.within v)) (trimmed-small k.put), taken_is f.classes k.put l (s g) below.0 (b g) one), taken_is f.classes k.put r (s h) below.1 (b h) two),
        taken_is f.classes k.put f.result (s t) br (b t) k.result,
      ),
    ))
