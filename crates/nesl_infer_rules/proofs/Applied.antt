-- What a name before `(` adds.
use Rattle.std.proofs.Common.{◌≡◌, ◌<◌, ℕ, Bool, true, false, cond, List, refl, sym, ap, ◌∙◌, subst, arith}
use Rattle.std.specs.Prelude.{Option, Some, None, option_map}
use Rattle.std.specs.Str.{bytes_eq}
use Rattle.nesl_types.specs.declared.bindings.Top.{Top}
use Rattle.nesl_types.specs.Names.{found}
use Rattle.nesl_types_shared.specs.Numbering.{IsBelow}
use Rattle.nesl_types_shared.specs.Substitution.{substitute}
use Rattle.nesl_types_shared.specs.Term.{Term, int, bool, char, variable, seq_of, pair_of, named}
use Rattle.nesl_builtins.specs.FunctionTypes.{FunctionType, builtin_type}
use Rattle.nesl_builtins.specs.Named.{builtin_named}
use Rattle.nesl_builtins.specs.declared.builtin.Builtin.{Builtin}
use Rattle.nesl_infer_rules.specs.declared.state.State.{State}
use Rattle.nesl_infer_rules.specs.declared.state.OwnName.{OwnName}
use Rattle.nesl_infer_names.specs.Names.{itself, top_in, hides, as_variable, as_function, built_in_or}
use Rattle.nesl_infer_rules.specs.World.{TypedNames, Callable, DatatypesByName, general, single, own_name, callable_of, meanings_in}
use Rattle.nesl_infer_rules.specs.Typing.{IsInstanceOf, NameTakes, IsRecord, CallableTakes}
use Rattle.nesl_infer_rules.specs.Contexts.{IsOther}
use Rattle.nesl_infer_rules.specs.Steps.{Agrees, count, Adds, own_at}
use Rattle.nesl_infer_rules.proofs.Steps.{gives_then, gives_and, adds_as}

abbrev pub Applies : State → State → ((ℕ → Term) → TypedNames) → List ℕ → ℕ → ℕ → Type 0
Applies A B N f g t = Adds A B (λ s of. NameTakes (N s) of f (s g) (s t))

same_meaning : (m k : Callable) → Some m ≡ Some k → m ≡ k
same_meaning m k e = cc

pub applied_general : {A B : State} (N : (ℕ → Term) → TypedNames) (f : List ℕ) (ft : FunctionType) (g t : ℕ) → ((s : ℕ → Term) → (N s).functions f ≡ Some (general ft)) →
    Adds A B (λ s of. IsInstanceOf ft of (s g) (s t)) → Applies A B N f g t
applied_general N f ft g t e p =
    adds_as (λ s of x. IsInstanceOf ft of (s g) (s t)) (λ s of. NameTakes (N s) of f (s g) (s t)) p
    (λ s of b h. (general ft, e s, h))
    (λ s of h. (tt, subst (λ (m : Callable). CallableTakes of m (s g) (s t)) (sym (same_meaning (general ft) h.0 (sym (e s) ∙ h.1))) h.2))

pub applied_single : {A B C : State} (N : (ℕ → Term) → TypedNames) (f : List ℕ) (p q : (ℕ → Term) → Term) (g t : ℕ) → t < count A →
    ((s z : ℕ → Term) → Agrees (count A) s z → q s ≡ q z) → ((s : ℕ → Term) → (N s).functions f ≡ Some (single (p s) (q s))) →
    Adds A B (λ s of. s g ≡ p s) → Adds B C (λ s of. s t ≡ q s) → Applies A C N f g t
applied_single N f p q g t inside fixed e p1 p2 =
    let q2 = gives_then (λ s of x. s g ≡ p s) (λ x s of y. s t ≡ q s) p1 p2 (λ x s z of y a h. sym (a t inside) ∙ h ∙ fixed s z a) in
    adds_as _ (λ s of. NameTakes (N s) of f (s g) (s t)) q2
    (λ s of b h. (single (p s) (q s), e s, h))
    (λ s of h. ((tt, tt), subst (λ (m : Callable). CallableTakes of m (s g) (s t)) (sym (same_meaning (single (p s) (q s)) h.0 (sym (e s) ∙ h.1))) h.2))

pub applied_none : {A B : State} (N : (ℕ → Term) → TypedNames) (f : List ℕ) (g t : ℕ) → ((s : ℕ → Term) → (N s).functions f ≡ None) →
    Adds A B (λ s of. ⊥) → Applies A B N f g t
applied_none N f g t e p =
    adds_as (λ s of x. ⊥) (λ s of. NameTakes (N s) of f (s g) (s t)) p (λ s of b h. absurd h)
    (λ s of h. (tt, let k : Some h.0 ≡ None = sym h.1 ∙ e s in cc))

-- what a name that isn't the own one means
pub other_means : {P : Type 0} (context : List (List ℕ × Top × P)) (own : Option OwnName) (f : List ℕ) (s : ℕ → Term) → IsOther f own →
    (meanings_in context (own_at s own)).functions f ≡ callable_of (own_at s own) (built_in_or (builtin_named f) (as_function (top_in context f)))
other_means context None f s h = refl
other_means context (Some o) f s h =
    ap (λ (b : Bool). callable_of (own_at s (Some o)) (cond b (Some itself) (built_in_or (builtin_named f) (as_function (top_in context f))))) h

pub own_means : {P : Type 0} (context : List (List ℕ × Top × P)) (own : Option OwnName) (o : OwnName) (f : List ℕ) (s : ℕ → Term) → own ≡ Some o → bytes_eq f o.name.items ≡ true →
    (meanings_in context (own_at s own)).functions f ≡ Some (single (s o.takes) (s o.gives))
own_means context own o f s e h =
    ap (λ (k : Option OwnName). (meanings_in context (own_at s k)).functions f) e
    ∙ ap (λ (b : Bool). callable_of (own_at s (Some o)) (cond b (Some itself) (built_in_or (builtin_named f) (as_function (top_in context f))))) h

pub built_in_means : {P : Type 0} (context : List (List ℕ × Top × P)) (own : Option OwnName) (f : List ℕ) (b : Builtin) (s : ℕ → Term) → IsOther f own → Some b ≡ builtin_named f →
    (meanings_in context (own_at s own)).functions f ≡ Some (general (builtin_type b))
built_in_means context own f b s h e =
    other_means context own f s h ∙ ap (λ (o : Option Builtin). callable_of (own_at s own) (built_in_or o (as_function (top_in context f)))) (sym e)

pub top_means : {P : Type 0} (context : List (List ℕ × Top × P)) (own : Option OwnName) (f : List ℕ) (s : ℕ → Term) (o : Option (Top × P)) → IsOther f own → None ≡ builtin_named f → o ≡ found f context →
    (meanings_in context (own_at s own)).functions f ≡ callable_of (own_at s own) (as_function (option_map (λ b. b.0) o))
top_means context own f s o h e q =
    other_means context own f s h
    ∙ ap (λ (k : Option Builtin). callable_of (own_at s own) (built_in_or k (as_function (top_in context f)))) (sym e)
    ∙ ap (λ k. callable_of (own_at s own) (as_function (option_map (λ b. b.0) k))) (sym q)

pub closed-kept : (s : ℕ → Term) (t : Term) → IsBelow 0 t → substitute s t ≡ t
closed-kept s int b = refl
closed-kept s bool b = refl
closed-kept s char b = refl
closed-kept s (variable v) b = absurd (omega arith)
closed-kept s (seq_of t) b = ap seq_of (closed-kept s t b)
closed-kept s (pair_of t u) b = let e = closed-kept s t b.0 in let d = closed-kept s u b.1 in cc
closed-kept s (named n) b = refl

-- what a variable of the top level is
pub variable_means : {P : Type 0} (context : List (List ℕ × Top × P)) (own : Option OwnName) (x : List ℕ) (s : ℕ → Term) (o : Option (Top × P)) →
    hides (own_name (own_at s own)) x ≡ false → o ≡ found x context → (meanings_in context (own_at s own)).variables x ≡ as_variable (option_map (λ k. k.0) o)
variable_means context own x s o h e =
    ap (λ (c : Bool). cond c None (as_variable (top_in context x))) h ∙ ap (λ k. as_variable (option_map (λ k. k.0) k)) (sym e)

pub hidden_means : {P : Type 0} (context : List (List ℕ × Top × P)) (own : Option OwnName) (x : List ℕ) (s : ℕ → Term) → hides (own_name (own_at s own)) x ≡ true →
    (meanings_in context (own_at s own)).variables x ≡ None
hidden_means context own x s h = ap (λ (c : Bool). cond c None (as_variable (top_in context x))) h

pub is_variable : {A B : State} (N : (ℕ → Term) → TypedNames) (x : List ℕ) (t : Term) (v : ℕ) → ((s : ℕ → Term) → (N s).variables x ≡ Some t) → Adds A B (λ s of. s v ≡ t) → Adds A B (λ s of. (N s).variables x ≡ Some (s v))
is_variable N x t v e p =
    adds_as (λ s of k. s v ≡ t) (λ s of. (N s).variables x ≡ Some (s v)) p (λ s of b h. e s ∙ ap Some (sym h)) (λ s of h. (tt, same_inside (s v) t (sym h ∙ e s)))
  where
    same_inside : (t u : Term) → Some t ≡ Some u → t ≡ u
    same_inside t u q = cc

pub no_variable : {A B : State} (N : (ℕ → Term) → TypedNames) (x : List ℕ) (v : ℕ) → ((s : ℕ → Term) → (N s).variables x ≡ None) → Adds A B (λ s of. ⊥) → Adds A B (λ s of. (N s).variables x ≡ Some (s v))
no_variable N x v e p =
    adds_as (λ s of k. ⊥) (λ s of. (N s).variables x ≡ Some (s v)) p (λ s of b h. absurd h) (λ s of h. (tt, let k : Some (s v) ≡ None = sym h ∙ e s in cc))

-- what a datatype is
pub is_a_record : {A B C : State} (ds : DatatypesByName) (x : List ℕ) (tag : ℕ) (held : Term) (v h : ℕ) → h < count A → ds x ≡ Some (tag, held) →
    Adds A B (λ s of. s v ≡ named tag) → Adds B C (λ s of. s h ≡ held) → Adds A C (λ s of. IsRecord ds x (s v) (s h))
is_a_record ds x tag held v h inside e p1 p2 =
    let q = gives_and (λ s of k. s v ≡ named tag) (λ k s of. s h ≡ held) p1 p2 (λ k s z of a j. sym (a h inside) ∙ j) in
    adds_as _ (λ s of. IsRecord ds x (s v) (s h)) q
    (λ s of b k. ((tag, held), e, k.0, k.1))
    (λ s of k. (tt, (k.2 ∙ ap (λ (d : ℕ × Term). named d.0) (same_inside k.0 (tag, held) (sym k.1 ∙ e)), k.3 ∙ ap (λ (d : ℕ × Term). d.1) (same_inside k.0 (tag, held) (sym k.1 ∙ e)))))
  where
    same_inside : (c d : ℕ × Term) → Some c ≡ Some d → c ≡ d
    same_inside c d q = cc

pub no_record : {A B : State} (ds : DatatypesByName) (x : List ℕ) (v h : ℕ) → ds x ≡ None → Adds A B (λ s of. ⊥) → Adds A B (λ s of. IsRecord ds x (s v) (s h))
no_record ds x v h e p =
    adds_as (λ s of k. ⊥) (λ s of. IsRecord ds x (s v) (s h)) p (λ s of b k. absurd k) (λ s of k. (tt, let j : Some k.0 ≡ None = sym k.1 ∙ e in cc))
