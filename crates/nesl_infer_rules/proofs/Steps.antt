-- Steps, one after another.
use Rattle.std.proofs.Common.{◌≡◌, ◌+◌, ◌≤◌, ℕ, true, [], ◌∷◌, ◌++◌, length, refl, sym, ap, ◌∙◌, subst, arith, length-append}
use Rattle.std.specs.Prelude.{Some, ◌↔◌}
use Rattle.std.proofs.lemmas.List.Elements.{All-push, All-pop}
use Rattle.nesl_types.specs.declared.classes.Class.{Class}
use Rattle.nesl_types.specs.declared.classes.Class.TheVariants.{Any}
use Rattle.nesl_types_shared.specs.Term.{Term, int, bool, char, variable, seq_of, pair_of, named, nodes}
use Rattle.nesl_types_shared.specs.Substitution.{substitute}
use Rattle.nesl_types.specs.Class.{IsIn}
use Rattle.nesl_unify.specs.Bounds.{IsBounded}
use Rattle.nesl_unify.specs.declared.narrow.Member.{Member}
use Rattle.nesl_unify.specs.Members.{IsInAll}
use Rattle.nesl_unify.specs.Systems as system
use Rattle.nesl_infer_rules.specs.declared.state.State.{State}
use Rattle.nesl_infer_rules.specs.Steps.{Agrees, count, IsSolution, Gives, Adds}
use Rattle.nesl_infer_rules.proofs.Agreement.{holds-agrees, Agrees-trans, with_at, with_at-agrees, with_at-same, with_at-bounded}

-- one step after another, where what the second says of x depends only on the variables of the first state
pub gives_then : {X Y : Type 0} {A B C : State} {r : (ℕ → Term) → X} {q : (ℕ → Term) → Y} (P : (ℕ → Term) → (ℕ → Class) → X → Type 0) (Q : X → (ℕ → Term) → (ℕ → Class) → Y → Type 0) →
    Gives A B r P → Gives B C q (λ s of y. Q (r s) s of y) →
    ((x : X) (s z : ℕ → Term) (of : ℕ → Class) (y : Y) → Agrees (count A) s z → Q x s of y → Q x z of y) →
    Gives {X = X × Y} A C (λ s. (r s, q s)) (λ s of k. P s of k.0 × Q k.0 s of k.1)
gives_then {X = X} {Y = Y} {A = A} {B = B} {C = C} {r = r} {q = q} P Q p h m = record {
  more = let a = p.more in let b = h.more in omega arith;
  fixed = λ s z a.
      let l = h.more in
      let e = p.fixed s z (λ v o. a v (omega arith)) in
      let d = h.fixed s z a in
      ap (λ (x : X). let k : X × Y = (x, q s) in k) e ∙ ap (λ (y : Y). let k : X × Y = (r z, y) in k) d;
  sound = λ s of b o.
      let second = h.sound s of b o in
      let first = p.sound s of b second.0 in
      (first.0, (first.1, second.1));
  complete = λ s of b o x c.
      let y = p.complete s of b o x.0 c.0 in
      let moved = m x.0 s y.0 of x.1 y.1 c.1 in
      let z = h.complete y.0 of y.3 y.2 x.1 (subst (λ (w : X). Q w y.0 of x.1) (sym y.4) moved) in
      let kept : r z.0 ≡ x.0 = sym (p.fixed y.0 z.0 z.1) ∙ y.4 in (
        z.0,
        Agrees-trans (count A) (count B) s y.0 z.0 p.more y.1 z.1,
        z.2,
        z.3,
        ap (λ (w : X). let k : X × Y = (w, q z.0) in k) kept ∙ ap (λ (w : Y). let k : X × Y = (x.0, w) in k) z.4,
      );
}

-- a step in other words, and with something else read
pub gives_as : {X Y : Type 0} {A B : State} {r : (ℕ → Term) → X} (q : (ℕ → Term) → Y) (P : (ℕ → Term) → (ℕ → Class) → X → Type 0) (Q : (ℕ → Term) → (ℕ → Class) → Y → Type 0) →
    Gives A B r P →
    ((s z : ℕ → Term) → Agrees (count B) s z → q s ≡ q z) →
    ((s : ℕ → Term) (of : ℕ → Class) → IsBounded s → P s of (r s) → Q s of (q s)) →
    ((s : ℕ → Term) (of : ℕ → Class) (y : Y) → Q s of y → (x : X) × P s of x × ((z : ℕ → Term) → Agrees (count A) s z → r z ≡ x → q z ≡ y)) →
    Gives A B q Q
gives_as q P Q p g e d = record {
  more = p.more;
  fixed = g;
  sound = λ s of b o. let h = p.sound s of b o in (h.0, e s of b h.1);
  complete = λ s of b o y c.
      let x = d s of y c in
      let z = p.complete s of b o x.0 x.1 in
      (z.0, z.1, z.2, z.3, x.2 z.0 z.1 z.4);
}

-- a step in other words, of which nothing is read any more
pub adds_as : {X : Type 0} {A B : State} {r : (ℕ → Term) → X} (P : (ℕ → Term) → (ℕ → Class) → X → Type 0) (Q : (ℕ → Term) → (ℕ → Class) → Type 0) →
    Gives A B r P →
    ((s : ℕ → Term) (of : ℕ → Class) → IsBounded s → P s of (r s) → Q s of) →
    ((s : ℕ → Term) (of : ℕ → Class) → Q s of → (x : X) × P s of x) →
    Adds A B Q
adds_as P Q p e d = record {
  more = p.more;
  fixed = λ s z a. refl;
  sound = λ s of b o. let h = p.sound s of b o in (h.0, e s of b h.1);
  complete = λ s of b o y c.
      let x = d s of c in
      let z = p.complete s of b o x.0 x.1 in
      (z.0, z.1, z.2, z.3, refl);
}

-- the same, where the types are known to be bounded
pub adds_from : {X : Type 0} {A B : State} {r : (ℕ → Term) → X} (P : (ℕ → Term) → (ℕ → Class) → X → Type 0) (Q : (ℕ → Term) → (ℕ → Class) → Type 0) →
    Gives A B r P →
    ((s : ℕ → Term) (of : ℕ → Class) → IsBounded s → P s of (r s) → Q s of) →
    ((s : ℕ → Term) (of : ℕ → Class) → IsBounded s → Q s of → (x : X) × P s of x) →
    Adds A B Q
adds_from P Q p e d = record {
  more = p.more;
  fixed = λ s z a. refl;
  sound = λ s of b o. let h = p.sound s of b o in (h.0, e s of b h.1);
  complete = λ s of b o y c.
      let x = d s of b c in
      let z = p.complete s of b o x.0 x.1 in
      (z.0, z.1, z.2, z.3, refl);
}

-- a step in which nothing more is read
pub gives_and : {X : Type 0} {A B C : State} {r : (ℕ → Term) → X} (P : (ℕ → Term) → (ℕ → Class) → X → Type 0) (Q : X → (ℕ → Term) → (ℕ → Class) → Type 0) →
    Gives A B r P → Adds B C (λ s of. Q (r s) s of) →
    ((x : X) (s z : ℕ → Term) (of : ℕ → Class) → Agrees (count A) s z → Q x s of → Q x z of) →
    Gives A C r (λ s of x. P s of x × Q x s of)
gives_and {X = X} {A = A} {r = r} P Q p h m =
    let q = gives_then P (λ x s of y. Q x s of) p h (λ x s z of y a k. m x s z of a k) in
    gives_as r _ (λ s of x. P s of x × Q x s of) q (λ s z a. ap (λ x. x.0) (q.fixed s z a)) (λ s of b k. k) (λ s of x k. ((x, tt), k, λ z a e. ap (λ x. x.0) e))

-- one equation
pub adds_equation : (A B : State) → A.is_whole ≡ true → B.is_whole ≡ true → (Q : (ℕ → Term) → Type 0) → B.system.members.items ≡ A.system.members.items →
    ((s : ℕ → Term) → system.IsSolvedBy B.system s ↔ (system.IsSolvedBy A.system s × Q s)) → Adds A B (λ s of. Q s)
adds_equation A B i j Q m q =
    let same : count B ≡ count A = ap length m in
    record {
      more = omega arith;
      fixed = λ s z g. refl;
      sound = λ s of l h.
          let p = (q s).0 h.solves.equal in
          (record { whole = i; solves = record { equal = p.0; within = subst (IsInAll s of) m h.solves.within } }, p.1);
      complete = λ s of l h x c.
          (s, λ _ _. refl, record { whole = j; solves = record { equal = (q s).1 (h.solves.equal, c); within = subst (IsInAll s of) (sym m) h.solves.within } }, l, refl);
    }

-- one variable, for some type of its class
pub gives_fresh : (A B : State) → A.is_whole ≡ true → B.is_whole ≡ true → (c : Class) (v : ℕ) → v ≡ count A →
    B.system.members.items ≡ A.system.members.items ++ record { variable = v; class = c } ∷ [] → ((s : ℕ → Term) → system.IsSolvedBy B.system s ↔ system.IsSolvedBy A.system s) →
    Gives A B (λ s. s v) (λ s of u. IsIn of c u × (nodes u ≤ 4096))
gives_fresh A B i j c v is m q =
    let fresh : Member = record { variable = v; class = c } in
    let grown : count B ≡ count A + 1 = ap length m ∙ length-append A.system.members.items (fresh ∷ []) in
    record {
      more = omega arith;
      fixed = λ s z g. g v (omega arith);
      sound = λ s of l h.
          let w = All-pop (λ (x : Member). IsIn of x.class (s x.variable)) B.system.members.items A.system.members.items (Some fresh) m h.solves.within in
          (record { whole = i; solves = record { equal = (q s).0 h.solves.equal; within = w.0 } }, (w.1, l v));
      complete = λ s of l h u e.
          let y = with_at s v u in
          let g : Agrees (count A) s y = subst (λ (n : ℕ). Agrees n s y) is (with_at-agrees s v u) in
          let k = (holds-agrees A s y of g h).solves in
          let all = All-push (λ (x : Member). IsIn of x.class (y x.variable)) A.system.members.items fresh k.within (subst (λ (t : Term). IsIn of c t) (sym (with_at-same s v u)) e.0) in
          let on : IsSolution y of B = record { whole = j; solves = record { equal = (q y).1 k.equal; within = subst (IsInAll y of) (sym m) all } } in
          (y, g, on, with_at-bounded s v u l e.1, with_at-same s v u);
    }

-- a variable's type in other words
pub adds_is : {A B : State} (v : ℕ) (f g : (ℕ → Term) → Term) → ((s : ℕ → Term) → f s ≡ g s) → Adds A B (λ s of. s v ≡ f s) → Adds A B (λ s of. s v ≡ g s)
adds_is v f g e p = adds_as (λ s of x. s v ≡ f s) (λ s of. s v ≡ g s) p (λ s of b h. h ∙ e s) (λ s of h. (tt, h ∙ sym (e s)))

pub in_any : (of : ℕ → Class) (t : Term) → IsIn of Any t
in_any of int = tt
in_any of bool = tt
in_any of char = tt
in_any of (variable v) = λ t m. tt
in_any of (seq_of t) = tt
in_any of (pair_of t u) = tt
in_any of (named n) = tt

pub gives_anything : {A B : State} (v : ℕ) → Gives A B (λ s. s v) (λ s of u. IsIn of Any u × (nodes u ≤ 4096)) → Gives A B (λ s. s v) (λ s of u. nodes u ≤ 4096)
gives_anything v p = gives_as (λ s. s v) (λ s of u. IsIn of Any u × (nodes u ≤ 4096)) (λ s of u. nodes u ≤ 4096) p p.fixed (λ s of b h. h.1) (λ s of y h. (y, (in_any of y, h), λ z a e. e))

pub gives_exactly : {A B C : State} (v : ℕ) (t : Term) → nodes t ≤ 4096 → ((s : ℕ → Term) → substitute s t ≡ t) → Gives A B (λ s. s v) (λ s of u. nodes u ≤ 4096) → Adds B C (λ s of. s v ≡ substitute s t) →
    Gives A C (λ s. s v) (λ s of u. u ≡ t)
gives_exactly v t l k p1 p2 =
    let q = gives_and (λ s of u. nodes u ≤ 4096) (λ u s of. u ≡ t) p1 (adds_is v (λ s. substitute s t) (λ s. t) k p2) (λ x s z of a h. h) in
    gives_as (λ s. s v) _ (λ s of u. u ≡ t) q q.fixed (λ s of b h. h.1) (λ s of u h. (u, (subst (λ (x : Term). nodes x ≤ 4096) (sym h) l, h), λ z a e. e))

-- a type that would be two types
pub adds_never : {A B C D : State} (v : ℕ) → Gives A B (λ s. s v) (λ s of u. nodes u ≤ 4096) → Adds B C (λ s of. s v ≡ int) → Adds C D (λ s of. s v ≡ bool) → Adds A D (λ s of. ⊥)
adds_never v p1 p2 p3 =
    let q2 = gives_and (λ s of u. nodes u ≤ 4096) (λ u s of. u ≡ int) p1 p2 (λ x s z of a h. h) in
    let q3 = gives_and _ (λ u s of. u ≡ bool) q2 p3 (λ x s z of a h. h) in
    adds_as _ (λ s of. ⊥) q3 (λ s of b h. let e : int ≡ bool = sym h.0.1 ∙ h.1 in cc) (λ s of h. absurd h)
