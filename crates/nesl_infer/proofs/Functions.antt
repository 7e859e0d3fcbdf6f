-- From the equations of a function to its scheme.
use Rattle.std.proofs.Common.{◌≡◌, ◌<◌, ◌≤◌, ◌+◌, ℕ, zero, suc, Bool, true, false, cond, inl, inr, List, [], ◌∷◌, ◌++◌, length, map, get_or, refl, sym, ap, ◌∙◌, subst, arith}
use Rattle.std.specs.Prelude.{Option, Some, nat_lt, nat_eq}
use Rattle.std.proofs.lemmas.Bool.{cases_lt}
use Rattle.std.proofs.lemmas.Bool.Decides.{nat_tests}
use Rattle.std.proofs.lemmas.List.Elements.{All-weaker}
use Rattle.nesl_types.specs.declared.classes.Class.{Class}
use Rattle.nesl_types.specs.declared.classes.Class.TheVariants.{Any}
use Rattle.nesl_types.specs.declared.bindings.Top.{Top}
use Rattle.nesl_types.specs.declared.schemes.Scheme.{Scheme}
use Rattle.nesl_types_shared.specs.Term.{Term, int, bool, char, variable, seq_of, pair_of, named, nodes}
use Rattle.nesl_types_shared.specs.Numbering.{IsBelow, variables, first_occurrences, number_of}
use Rattle.nesl_types.specs.Scheme.{IsSchemeOf}
use Rattle.nesl_types_shared.specs.Substitution.{substitute}
use Rattle.nesl_types.specs.Class.{IsIn, IsWithin, class_at}
use Rattle.nesl_types.proofs.Members.{IsIn-substitute}
use Rattle.nesl_syntax_tree.specs.Trees.{PatternTree, Tree, SignatureTree}
use Rattle.nesl_unify.specs.Bounds.{IsBounded}
use Rattle.nesl_unify.specs.Solves.{IsInstance}
use Rattle.nesl_unify.proofs.Facts.{true_with}
use Rattle.nesl_unify.specs.declared.narrow.Member.{Member}
use Rattle.nesl_infer_rules.specs.declared.state.State.{State}
use Rattle.nesl_infer_rules.specs.declared.state.Local.{Local}
use Rattle.nesl_infer_names.specs.Names.{datatype_in}
use Rattle.nesl_infer_rules.specs.World.{TypedNames, meanings_in}
use Rattle.nesl_infer_rules.specs.Typing.{HasType, PatternAdds, IsSigned}
use Rattle.nesl_infer_rules.specs.Principal.{bounded, TypedFunction, IsPrincipalScheme}
use Rattle.nesl_infer_rules.specs.Steps.{IsSolution, Gives, Adds, AddsNames, scope_at}
use Rattle.nesl_infer_rules.proofs.Places.{small}
use Rattle.nesl_infer_rules.proofs.Steps.{gives_then, gives_and, gives_as, adds_as, in_any}
use Rattle.nesl_infer_rules.proofs.Arms.{AnyTerm}
use Rattle.nesl_infer_rules.proofs.Instances.{int-in}
use Rattle.nesl_infer_rules.proofs.Patterns.{parts-small}
use Rattle.nesl_infer.proofs.Wholes.{IsEmpty}

-- the variables of a type by their numbers, and `int` for one that has none
numbered : List ℕ → ℕ → Term
numbered vs v = cond (nat_lt (number_of vs v) (length vs)) (variable (number_of vs v)) int

numbered-inside : (vs : List ℕ) (v : ℕ) → number_of vs v < length vs → variable (number_of vs v) ≡ numbered vs v
unfolding numbered
numbered-inside vs v h = grind (arith, nat_tests)

numbered-node : (vs : List ℕ) (v : ℕ) → nodes (numbered vs v) ≡ 1
unfolding numbered
numbered-node vs v = by_test (nat_lt (number_of vs v) (length vs))
  where
    by_test : (b : Bool) → nodes (cond b (variable (number_of vs v)) int) ≡ 1
    by_test true = refl
    by_test false = refl

same_nodes : (r : ℕ → Term) (t : Term) → ((v : ℕ) → nodes (r v) ≡ 1) → nodes (substitute r t) ≡ nodes t
same_nodes r int h = refl
same_nodes r bool h = refl
same_nodes r char h = refl
same_nodes r (variable v) h = h v
same_nodes r (seq_of t) h = ap (λ (n : ℕ). 1 + n) (same_nodes r t h)
same_nodes r (pair_of t u) h = let e = same_nodes r t h in let d = same_nodes r u h in omega arith
same_nodes r (named k) h = refl

-- a type whose renamed variables are below n
renamed-numbered : (vs : List ℕ) (t : Term) → IsBelow (length vs) (substitute (λ v. variable (number_of vs v)) t) → substitute (λ v. variable (number_of vs v)) t ≡ substitute (numbered vs) t
renamed-numbered vs int h = refl
renamed-numbered vs bool h = refl
renamed-numbered vs char h = refl
renamed-numbered vs (variable v) h = numbered-inside vs v h
renamed-numbered vs (seq_of t) h = ap seq_of (renamed-numbered vs t h)
renamed-numbered vs (pair_of t u) h = let e = renamed-numbered vs t h.0 in let d = renamed-numbered vs u h.1 in cc
renamed-numbered vs (named k) h = refl

-- the variable of a number
number-back : (vs : List ℕ) (v : ℕ) → number_of vs v < length vs → get_or vs (number_of vs v) 0 ≡ v
number-back [] v h = absurd (omega arith)
number-back (w ∷ vs) v h = by_test (nat_eq v w) (λ e. grind (arith, nat_tests)) (number-back vs v) h
  where
    by_test : (b : Bool) → (b ≡ true → v ≡ w) → (number_of vs v < length vs → get_or vs (number_of vs v) 0 ≡ v) → cond b 0 (1 + number_of vs v) < suc (length vs) → get_or (w ∷ vs) (cond b 0 (1 + number_of vs v)) 0 ≡ v
    by_test true e f k = sym (e refl)
    by_test false e f k =
        let one : 1 + number_of vs v ≡ suc (number_of vs v) = omega arith in
        let i = f (omega arith) in
        subst (λ (n : ℕ). get_or (w ∷ vs) n 0 ≡ v) (sym one) i

put_back : (put : ℕ → Term) (vs : List ℕ) (t : Term) → IsBelow (length vs) (substitute (λ v. variable (number_of vs v)) t) →
    substitute put t ≡ substitute (λ n. put (get_or vs n 0)) (substitute (λ v. variable (number_of vs v)) t)
put_back put vs int h = refl
put_back put vs bool h = refl
put_back put vs char h = refl
put_back put vs (variable v) h = ap put (sym (number-back vs v h))
put_back put vs (seq_of t) h = ap seq_of (put_back put vs t h)
put_back put vs (pair_of t u) h = let e = put_back put vs t h.0 in let d = put_back put vs u h.1 in cc
put_back put vs (named k) h = refl

class-map : (of : ℕ → Class) (vs : List ℕ) (n : ℕ) → n < length vs → class_at (map of vs) n ≡ of (get_or vs n 0)
class-map of [] n h = absurd (omega arith)
class-map of (v ∷ vs) zero h = refl
class-map of (v ∷ vs) (suc n) h = class-map of vs n (omega arith)

class-past : (of : ℕ → Class) (vs : List ℕ) (n : ℕ) → length vs ≤ n → class_at (map of vs) n ≡ Any
class-past of [] n h = refl
class-past of (v ∷ vs) zero h = absurd (omega arith)
class-past of (v ∷ vs) (suc n) h = class-past of vs n (omega arith)

numbered-outside : (vs : List ℕ) (v : ℕ) → length vs ≤ number_of vs v → int ≡ numbered vs v
unfolding numbered
numbered-outside vs v h = grind (arith, nat_tests)

numbered-in : (of : ℕ → Class) (vs : List ℕ) (v : ℕ) → IsIn (class_at (map of vs)) (of v) (numbered vs v)
numbered-in of vs v =
    elim (cases_lt (number_of vs v) (length vs)) [
      | inl l ↦
          let same : class_at (map of vs) (number_of vs v) ≡ of v = class-map of vs (number_of vs v) l ∙ ap of (number-back vs v l) in
          let within : IsWithin (class_at (map of vs) (number_of vs v)) (of v) = subst (λ (c : Class). IsWithin c (of v)) (sym same) (λ t m. m) in
          subst (λ (t : Term). IsIn (class_at (map of vs)) (of v) t) (numbered-inside vs v l) within
      | inr g ↦ subst (λ (t : Term). IsIn (class_at (map of vs)) (of v) t) (numbered-outside vs v g) (int-in (class_at (map of vs)) (of v))
    ]

put-in : (of k : ℕ → Class) (vs : List ℕ) (put : ℕ → Term) → ((v : ℕ) → IsIn k (of v) (put v)) → (n : ℕ) → IsIn k (class_at (map of vs) n) (put (get_or vs n 0))
put-in of k vs put h n =
    elim (cases_lt n (length vs)) [
      | inl l ↦ subst (λ (c : Class). IsIn k c (put (get_or vs n 0))) (sym (class-map of vs n l)) (h (get_or vs n 0))
      | inr g ↦ subst (λ (c : Class). IsIn k c (put (get_or vs n 0))) (sym (class-past of vs n g)) (in_any k (put (get_or vs n 0)))
    ]

-- a solution with the numbers in place of its variables
holds_numbered : (C : State) (s : ℕ → Term) (of : ℕ → Class) (vs : List ℕ) → IsSolution s of C → IsSolution (λ v. substitute (numbered vs) (s v)) (class_at (map of vs)) C
holds_numbered C s of vs h = record {
  whole = h.whole;
  solves = record {
    equal = true_with (numbered vs) C.system.instances C.system.facts.items s h.solves.equal;
    within = All-weaker (λ (m : Member). IsIn of m.class (s m.variable)) (λ (m : Member). IsIn (class_at (map of vs)) m.class (substitute (numbered vs) (s m.variable)))
        (λ m k. IsIn-substitute of (class_at (map of vs)) (numbered vs) m.class (s m.variable) k (numbered-in of vs)) C.system.members.items h.solves.within;
  };
}

bounded_numbered : (s : ℕ → Term) (vs : List ℕ) → IsBounded s → IsBounded (λ v. substitute (numbered vs) (s v))
bounded_numbered s vs b v = subst (λ (n : ℕ). n ≤ 4096) (sym (same_nodes (numbered vs) (s v) (numbered-node vs))) (b v)

-- the equations of a function have just its typings as solutions
pub record IsWhole (C : State) (t u : ℕ) (F : (ℕ → Class) → Term → Term → Type 0) : Type 0 where
  pub sound : (s : ℕ → Term) (of : ℕ → Class) → IsBounded s → IsSolution s of C → F of (s t) (s u)
  pub complete : (of : ℕ → Class) (a b : Term) → F of a b → (z : ℕ → Term) × IsSolution z of C × IsBounded z × (z t ≡ a) × (z u ≡ b)

pub whole : {A C : State} (t u : ℕ) (F : (ℕ → Class) → Term → Term → Type 0) → IsEmpty A → Gives {X = Term × Term} A C (λ s. (s t, s u)) (λ s of x. F of x.0 x.1) → IsWhole C t u F
whole {A = A} t u F h p = record {
  sound = λ s of b k. (p.sound s of b k).1;
  complete = λ of a b f.
      let z = p.complete (λ v. int) of (λ v. omega arith) (h (λ v. int) of) (a, b) f in
      (z.0, z.2, z.3, ap (λ x. x.0) z.4, ap (λ x. x.1) z.4);
}

-- the scheme of a most general solution is principal
pub scheme_principal : (C : State) (t u : ℕ) (F : (ℕ → Class) → Term → Term → Type 0) → IsWhole C t u F → (s : ℕ → Term) (of : ℕ → Class) → IsBounded s → IsSolution s of C →
    ((z : ℕ → Term) (k : ℕ → Class) → IsSolution z k C → IsInstance s of z k) → (g : Scheme) → IsSchemeOf (s t) (s u) of g →
    IsBelow (length g.classes.items) g.argument → IsBelow (length g.classes.items) g.result → IsPrincipalScheme F g
scheme_principal C t u F w s of b h general g is la lr =
    let vs = first_occurrences (variables (s t) ++ variables (s u)) in
    let long : length g.classes.items ≡ length vs = ap length is.classes ∙ length_map of vs in
    let below_a : IsBelow (length vs) (substitute (λ v. variable (number_of vs v)) (s t)) = subst (λ (x : Term). IsBelow (length vs) x) is.argument (subst (λ (n : ℕ). IsBelow n g.argument) long la) in
    let below_r : IsBelow (length vs) (substitute (λ v. variable (number_of vs v)) (s u)) = subst (λ (x : Term). IsBelow (length vs) x) is.result (subst (λ (n : ℕ). IsBelow n g.result) long lr) in
    let typed = w.sound (λ v. substitute (numbered vs) (s v)) (class_at (map of vs)) (bounded_numbered s vs b) (holds_numbered C s of vs h) in
    let arg : substitute (numbered vs) (s t) ≡ g.argument = sym (is.argument ∙ renamed-numbered vs (s t) below_a) in
    let res : substitute (numbered vs) (s u) ≡ g.result = sym (is.result ∙ renamed-numbered vs (s u) below_r) in
    record {
      fits = subst (λ (cs : List Class). F (class_at cs) g.argument g.result) (sym is.classes)
          (subst (λ (x : Term). F (class_at (map of vs)) g.argument x) res (subst (λ (x : Term). F (class_at (map of vs)) x (substitute (numbered vs) (s u))) arg typed));
      most_general = λ k a r f.
          let z = w.complete k a r f in
          let i = general z.0 k z.1 in
          record {
            put = λ n. i.put (get_or vs n 0);
            within = subst (λ (cs : List Class). (n : ℕ) → IsIn k (class_at cs n) (i.put (get_or vs n 0))) (sym is.classes) (put-in of k vs i.put i.within);
            argument = sym z.3 ∙ i.same t ∙ put_back i.put vs (s t) below_a ∙ ap (substitute (λ n. i.put (get_or vs n 0))) (sym is.argument);
            result = sym z.4 ∙ i.same u ∙ put_back i.put vs (s u) below_r ∙ ap (substitute (λ n. i.put (get_or vs n 0))) (sym is.result);
          };
    }
  where
    length_map : (of : ℕ → Class) (vs : List ℕ) → length (map of vs) ≡ length vs
    length_map of [] = refl
    length_map of (v ∷ vs) = ap suc (length_map of vs)

-- what the equations of a function say
pub arm_function : {P : Type 0} (context : List (List ℕ × Top × P)) {A B1 B2 B3 B4 C : State} (x : List ℕ) (p : PatternTree) (g : Option SignatureTree) (e : Tree) (t u : ℕ) (ms : List Local) →
    AnyTerm A B1 t → AnyTerm B1 B2 u →
    AddsNames B2 B3 [] ms (λ s of ns. PatternAdds (bounded (meanings_in context (Some (x, s t, s u))) of) p (s t) ns) →
    Adds B3 B4 (λ s of. IsSigned (datatype_in context) of g (s t) (s u)) →
    Adds B4 C (λ s of. HasType (bounded (meanings_in context (Some (x, s t, s u))) of) (scope_at s ms) e (s u)) →
    Gives {X = Term × Term} A C (λ s. (s t, s u)) (λ s of k. TypedFunction context x p g e of k.0 k.1)
arm_function context x p g e t u ms p1 p2 p3 p4 p5 =
    let M : Term → Term → TypedNames = λ a b. meanings_in context (Some (x, a, b)) in
    let q2 = gives_then (λ s of k. nodes k ≤ 4096) (λ k s of j. nodes j ≤ 4096) p1 p2 (λ k s z of j a h. h) in
    let q3 = gives_then _ (λ k s of ns. PatternAdds (bounded (M k.0 k.1) of) p k.0 ns) q2 p3.gives (λ k s z of ns a h. h) in
    let q4 = gives_and _ (λ k s of. IsSigned (datatype_in context) of g k.0.0 k.0.1) q3 p4 (λ k s z of a h. h) in
    let last = adds_as (λ s of k. HasType (bounded (M (s t) (s u)) of) (scope_at s ms) e (s u)) (λ s of. HasType (bounded (M (s t) (s u)) of) (scope_at s p3.added) e (s u)) p5
    (λ s of b h. subst (λ (ls : List Local). HasType (bounded (M (s t) (s u)) of) (scope_at s ls) e (s u)) p3.after_is h)
    (λ s of h. (tt, subst (λ (ls : List Local). HasType (bounded (M (s t) (s u)) of) (scope_at s ls) e (s u)) (sym p3.after_is) h)) in
    let q5 = gives_and _ (λ k s of. HasType (bounded (M k.0.0 k.0.1) of) k.1 e k.0.1) q4 last (λ k s z of a h. h) in
    gives_as (λ s. (s t, s u)) _ (λ s of k. TypedFunction context x p g e of k.0 k.1) q5
    (λ s z a. ap (λ k. k.0) (q5.fixed s z a))
    (λ s of b h. record { parts = scope_at s p3.added; taken = h.0.0.1; signed = h.0.1; given = h.1 })
    (λ s of k h. (
      ((k.0, k.1), h.parts),
      ((((parts-small (M k.0 k.1) of p k.0 h.parts h.taken, small (bounded (M k.0 k.1) of) h.parts e k.1 4096 h.given), h.taken), h.signed), h.given),
      λ z a q. ap (λ j. j.0) q,
    ))
