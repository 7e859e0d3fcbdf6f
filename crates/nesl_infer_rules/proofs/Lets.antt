-- What a `let` and a call add.
use Rattle.std.proofs.Common.{◌≡◌, ◌<◌, ◌≤◌, ◌+◌, ℕ, List, [], ◌∷◌, ◌++◌, length, take, get_or, refl, sym, ap, ◌∙◌, subst, arith, append_assoc, append-nil}
use Rattle.std.proofs.lemmas.List.{take_more}
use Rattle.std.proofs.lemmas.List.Elements.{All-nil}
use Rattle.nesl_lex.specs.declared.token.Span.{Span}
use Rattle.nesl_types.specs.declared.classes.Class.{Class}
use Rattle.nesl_types_shared.specs.Term.{Term, nodes}
use Rattle.nesl_syntax_tree.specs.declared.tree.Binding.{Binding}
use Rattle.nesl_syntax_tree.specs.Views.{tree_of, pattern_tree, binders_in}
use Rattle.nesl_syntax_tree.specs.Trees.{PatternTree, Tree, Binders, node, no_binders, binder, with_last_binder}
use Rattle.nesl_syntax_tree.specs.Trees as trees
use Rattle.nesl_syntax_tree.proofs.Rows.{binders_push}
use Rattle.nesl_infer_rules.specs.declared.state.State.{State}
use Rattle.nesl_infer_rules.specs.declared.state.Local.{Local}
use Rattle.nesl_infer_rules.specs.World.{Assumptions, TypedNames}
use Rattle.nesl_infer_rules.specs.Typing.{LocalTypes, PatternAdds, HasType, BindingsAdd, NameTakes}
use Rattle.nesl_infer_rules.specs.Principal.{bounded}
use Rattle.nesl_infer_rules.specs.Steps.{Agrees, count, Adds, AddsNames, scope_at, AreLocalsBelow}
use Rattle.nesl_infer_rules.proofs.Places.{IsFixed, scope-fixed, typed-moves, small}
use Rattle.nesl_infer_rules.proofs.Steps.{gives_then, gives_as, adds_as}
use Rattle.nesl_infer_rules.proofs.Arms.{AnyTerm, Types}
use Rattle.nesl_infer_rules.proofs.Patterns.{NamesOf, scope-append, locals-weaker, locals-append, parts-moves}
use Rattle.nesl_infer_rules.proofs.Applied.{Applies}

pub binds-push : (w : Assumptions) (sc : LocalTypes) (bs : Binders) (p : PatternTree) (e : Tree) (ms os : LocalTypes) (u : Term) → BindingsAdd w sc bs ms → HasType w (ms ++ sc) e u → PatternAdds w p u os → BindingsAdd w sc (with_last_binder bs p e) (os ++ ms)
binds-push w sc no_binders p e ms os u h k l =
    (u, os, [], subst (λ (x : LocalTypes). HasType w (x ++ sc) e u) h k, l, refl, ap (λ (x : LocalTypes). os ++ x) h ∙ append-nil os)
binds-push w sc (binder q d bs) p e ms os u h k l =
    let same : ms ++ sc ≡ h.2 ++ (h.1 ++ sc) = ap (λ (x : LocalTypes). x ++ sc) h.6 ∙ append_assoc h.2 h.1 sc in
    let rest = binds-push w (h.1 ++ sc) bs p e h.2 os u h.5 (subst (λ (x : LocalTypes). HasType w x e u) same k) l in
    (h.0, h.1, os ++ h.2, h.3, h.4, rest, ap (λ (x : LocalTypes). os ++ x) h.6 ∙ sym (append_assoc os h.2 h.1))

-- the last binding apart from those before it
pub record Last (w : Assumptions) (sc : LocalTypes) (bs : Binders) (p : PatternTree) (e : Tree) (ns : LocalTypes) : Type 0 where
  pub ms : LocalTypes
  pub os : LocalTypes
  pub u : Term
  pub before : BindingsAdd w sc bs ms
  pub typed : HasType w (ms ++ sc) e u
  pub parts : PatternAdds w p u os
  pub whole : ns ≡ os ++ ms

pub binds-pop : (w : Assumptions) (sc : LocalTypes) (bs : Binders) (p : PatternTree) (e : Tree) (ns : LocalTypes) → BindingsAdd w sc (with_last_binder bs p e) ns → Last w sc bs p e ns
binds-pop w sc no_binders p e ns h = record {
  ms = [];
  os = h.1;
  u = h.0;
  before = refl;
  typed = h.3;
  parts = h.4;
  whole = h.6 ∙ ap (λ (x : LocalTypes). x ++ h.1) h.5 ∙ sym (append-nil h.1);
}
binds-pop w sc (binder q d bs) p e ns h =
    let k = binds-pop w (h.1 ++ sc) bs p e h.2 h.5 in
    record {
      ms = k.ms ++ h.1;
      os = k.os;
      u = k.u;
      before = (h.0, h.1, k.ms, h.3, h.4, k.before, refl);
      typed = subst (λ (x : LocalTypes). HasType w x e k.u) (sym (append_assoc k.ms h.1 sc)) k.typed;
      parts = k.parts;
      whole = h.6 ∙ ap (λ (x : LocalTypes). x ++ h.1) k.whole ∙ append_assoc k.os k.ms h.1;
    }

-- under names that were added
pub under : {A B : State} (N : (ℕ → Term) → TypedNames) (ls ms added : List Local) (e : Tree) (v : ℕ) → ms ≡ ls ++ added → Types A B N (λ s. scope_at s ms) e v →
    Adds A B (λ s of. HasType (bounded (N s) of) (scope_at s added ++ scope_at s ls) e (s v))
under N ls ms added e v q p =
    let same : (s : ℕ → Term) → scope_at s ms ≡ scope_at s added ++ scope_at s ls = λ s. ap (scope_at s) q ∙ scope-append s ls added in
    adds_as (λ s of x. HasType (bounded (N s) of) (scope_at s ms) e (s v)) (λ s of. HasType (bounded (N s) of) (scope_at s added ++ scope_at s ls) e (s v)) p
    (λ s of b h. subst (λ (sc : LocalTypes). HasType (bounded (N s) of) sc e (s v)) (same s) h)
    (λ s of h. (tt, subst (λ (sc : LocalTypes). HasType (bounded (N s) of) sc e (s v)) (sym (same s)) h))

pub under-moves : (n : ℕ) (N : (ℕ → Term) → TypedNames) (S : (ℕ → Term) → LocalTypes) → IsFixed n N S → (ns : LocalTypes) (e : Tree) (s z : ℕ → Term) (of : ℕ → Class) (t : Term) → Agrees n s z →
    HasType (bounded (N s) of) (ns ++ S s) e t → HasType (bounded (N z) of) (ns ++ S z) e t
under-moves n N S f ns e s z of t a h =
    typed-moves n N (λ y. ns ++ S y) (record { names = f.names; scope = λ y x b. ap (λ (k : LocalTypes). ns ++ k) (f.scope y x b) }) e s z of t a h

abbrev pub BindsOf : State → State → List Local → List Local → ((ℕ → Term) → TypedNames) → Binders → Type 0
BindsOf A B ls ms N bs = AddsNames A B ls ms (λ s of ns. BindingsAdd (bounded (N s) of) (scope_at s ls) bs ns)

pub arm_let : {A B C : State} (N : (ℕ → Term) → TypedNames) (ls ms : List Local) → IsFixed (count A) N (λ s. scope_at s ls) → (sp : Span) (bs : Binders) (e : Tree) (v : ℕ) → v < count A →
    BindsOf A B ls ms N bs → Types B C N (λ s. scope_at s ms) e v → Types A C N (λ s. scope_at s ls) (node sp (trees.let_in bs e)) v
arm_let {A = A} N ls ms f sp bs e v inside p h =
    let q = gives_then (λ s of ns. BindingsAdd (bounded (N s) of) (scope_at s ls) bs ns) (λ ns s of y. HasType (bounded (N s) of) (ns ++ scope_at s ls) e (s v)) p.gives (under N ls ms p.added e v p.after_is h)
    (λ x s z of y g k. subst (λ (t : Term). HasType (bounded (N z) of) (x ++ scope_at z ls) e t) (g v inside) (under-moves (count A) N (λ s. scope_at s ls) f x e s z of (s v) g k)) in
    adds_as _ (λ s of. HasType (bounded (N s) of) (scope_at s ls) (node sp (trees.let_in bs e)) (s v)) q
    (λ s of b k. (b v, (scope_at s p.added, k.0, k.1)))
    (λ s of k. ((k.1.0, tt), (k.1.1, k.1.2)))

pub no_bindings : {A : State} (N : (ℕ → Term) → TypedNames) (ls : List Local) → BindsOf A A ls ls N no_binders
no_bindings {A = A} N ls = record {
  added = [];
  after_is = sym (append-nil ls);
  below = All-nil (λ (x : Local). x.variable < count A);
  gives = record {
    more = omega arith;
    fixed = λ s z a. refl;
    sound = λ s of b h. (h, refl);
    complete = λ s of b h x c. (s, λ _ _. refl, h, b, sym c);
  };
}

-- one binding more
pub arm_binding : {A B B1 B2 C : State} (N : (ℕ → Term) → TypedNames) (ls ms os : List Local) → IsFixed (count A) N (λ s. scope_at s ls) → (bs : Binders) (p : PatternTree) (e : Tree) (u : ℕ) →
    BindsOf A B ls ms N bs → AnyTerm B B1 u → Types B1 B2 N (λ s. scope_at s ms) e u → NamesOf B2 C ms os N p u → BindsOf A C ls os N (with_last_binder bs p e)
arm_binding {A = A} {B = B} {C = C} N ls ms os f bs p e u p1 p2 p3 p4 =
    let all : List Local = p1.added ++ p4.added in
    let below : AreLocalsBelow (count C) all =
    let a = p2.more in let b = p3.more in let d = p4.gives.more in
    locals-append (count C) p1.added p4.added (locals-weaker (count B) (count C) p1.added (omega arith) p1.below) p4.below in
    record {
      added = all;
      after_is = p4.after_is ∙ ap (λ (k : List Local). k ++ p4.added) p1.after_is ∙ append_assoc ls p1.added p4.added;
      below = below;
      gives =
          let q2 = gives_then (λ s of ns. BindingsAdd (bounded (N s) of) (scope_at s ls) bs ns) (λ x s of t. nodes t ≤ 4096) p1.gives p2 (λ x s z of y g k. k) in
          let q3 = gives_then _ (λ x s of y. HasType (bounded (N s) of) (x.0 ++ scope_at s ls) e x.1) q2 (under N ls ms p1.added e u p1.after_is p3)
          (λ x s z of y g k. under-moves (count A) N (λ s. scope_at s ls) f x.0 e s z of x.1 g k) in
          let q4 = gives_then _ (λ x s of ns. PatternAdds (bounded (N s) of) p x.0.1 ns) q3 p4.gives (λ x s z of y g k. parts-moves (count A) N f.names p s z of x.0.1 y g k) in
          gives_as (λ s. scope_at s all) _ (λ s of ns. BindingsAdd (bounded (N s) of) (scope_at s ls) (with_last_binder bs p e) ns) q4
          (λ s z a. scope-fixed (count C) all below s z a)
          (λ s of b h. subst (λ (sc : LocalTypes). BindingsAdd (bounded (N s) of) (scope_at s ls) (with_last_binder bs p e) sc) (sym (scope-append s p1.added p4.added))
          (binds-push (bounded (N s) of) (scope_at s ls) bs p e (scope_at s p1.added) (scope_at s p4.added) (s u) h.0.0.0 h.0.1 h.1))
          (λ s of ns h.
          let k = binds-pop (bounded (N s) of) (scope_at s ls) bs p e ns h in (
            (((k.ms, k.u), tt), k.os),
            (((k.before, small (bounded (N s) of) (k.ms ++ scope_at s ls) e k.u 4096 k.typed), k.typed), k.parts),
            λ z a q.
                scope-append z p1.added p4.added
                ∙ ap (λ (x : LocalTypes). x ++ scope_at z p1.added) (ap (λ x. x.1) q)
                ∙ ap (λ (x : LocalTypes). k.os ++ x) (ap (λ x. x.0.0.0) q)
                ∙ sym k.whole,
          ));
    }

pub arm_call : {A B1 B2 C : State} (N : (ℕ → Term) → TypedNames) (S : (ℕ → Term) → LocalTypes) → IsFixed (count A) N S → (sp : Span) (x : List ℕ) (e : Tree) (u v : ℕ) → v < count A →
    AnyTerm A B1 u → Types B1 B2 N S e u → Applies B2 C N x u v → Types A C N S (node sp (trees.call x e)) v
arm_call {A = A} N S f sp x e u v inside p1 p2 p3 =
    let q2 = gives_then (λ s of t. nodes t ≤ 4096) (λ k s of y. HasType (bounded (N s) of) (S s) e k) p1 p2 (λ k s z of y g h. typed-moves (count A) N S f e s z of k g h) in
    let q3 = gives_then _ (λ k s of y. NameTakes (N s) of x k.0 (s v)) q2 p3
    (λ k s z of y g h. subst (λ (t : Term). NameTakes (N z) of x k.0 t) (g v inside) (subst (λ (ns : TypedNames). NameTakes ns of x k.0 (s v)) (f.names s z g) h)) in
    adds_as _ (λ s of. HasType (bounded (N s) of) (S s) (node sp (trees.call x e)) (s v)) q3
    (λ s of b h. (b v, (s u, h.0.1, h.1)))
    (λ s of h. (((h.1.0, tt), tt), ((small (bounded (N s) of) (S s) e h.1.0 4096 h.1.1, h.1.1), h.1.2)))

pub take-binders : (bs : List Binding) (i : ℕ) (b : Binding) → i < length bs → b ≡ get_or bs i b → binders_in (take (i + 1) bs) ≡ with_last_binder (binders_in (take i bs)) (pattern_tree b.pattern) (tree_of b.value)
take-binders bs i b l h = ap binders_in (take_more bs i b l) ∙ ap (λ (k : Binding). binders_in (take i bs ++ k ∷ [])) (sym h) ∙ binders_push (take i bs) b
