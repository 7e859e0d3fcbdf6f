-- What each kind of pattern adds.
use Rattle.std.proofs.Common.{◌≡◌, ◌<◌, ◌≤◌, ℕ, List, [], ◌∷◌, ◌++◌, refl, sym, ap, ◌∙◌, subst, arith, append_assoc, append-nil}
use Rattle.std.proofs.lemmas.List.Elements.{All-nil, All-cons, All-append, All-weaker}
use Rattle.nesl_lex.specs.declared.token.Span.{Span}
use Rattle.nesl_types.specs.declared.classes.Class.{Class}
use Rattle.nesl_types_shared.specs.Term.{Term, pair_of, nodes}
use Rattle.nesl_syntax_tree.specs.Trees.{PatternTree, pattern}
use Rattle.nesl_syntax_tree.specs.Trees as trees
use Rattle.nesl_infer_rules.specs.declared.state.State.{State}
use Rattle.nesl_infer_rules.specs.declared.state.Local.{Local}
use Rattle.nesl_infer_rules.specs.World.{TypedNames}
use Rattle.nesl_infer_rules.specs.Typing.{Key, name, LocalTypes, PatternAdds, IsRecord}
use Rattle.nesl_infer_rules.specs.Principal.{bounded}
use Rattle.nesl_infer_rules.specs.Steps.{Agrees, count, Adds, AddsNames, key_of, scope_at, AreLocalsBelow}
use Rattle.nesl_infer_rules.proofs.Places.{scope-fixed}
use Rattle.nesl_infer_rules.proofs.Steps.{gives_then, gives_and, gives_as}
use Rattle.nesl_infer_rules.proofs.Arms.{AnyTerm}

abbrev pub NamesOf : State → State → List Local → List Local → ((ℕ → Term) → TypedNames) → PatternTree → ℕ → Type 0
NamesOf A B ls ms N p v = AddsNames A B ls ms (λ s of ns. PatternAdds (bounded (N s) of) p (s v) ns)

pub scope-append : (s : ℕ → Term) (ls ms : List Local) → scope_at s (ls ++ ms) ≡ scope_at s ms ++ scope_at s ls
scope-append s [] ms = sym (append-nil (scope_at s ms))
scope-append s (l ∷ ls) ms = ap (λ (sc : LocalTypes). sc ++ (key_of l.key, s l.variable) ∷ []) (scope-append s ls ms) ∙ append_assoc (scope_at s ms) (scope_at s ls) ((key_of l.key, s l.variable) ∷ [])

pub locals-weaker : (m n : ℕ) (ls : List Local) → m ≤ n → AreLocalsBelow m ls → AreLocalsBelow n ls
locals-weaker m n ls l h = All-weaker (λ (x : Local). x.variable < m) (λ (x : Local). x.variable < n) (λ x k. omega arith) ls h

pub locals-append : (n : ℕ) (ls ms : List Local) → AreLocalsBelow n ls → AreLocalsBelow n ms → AreLocalsBelow n (ls ++ ms)
locals-append n ls ms h k = All-append (λ (x : Local). x.variable < n) ls ms h k

pub parts-moves : (n : ℕ) (N : (ℕ → Term) → TypedNames) → ((s z : ℕ → Term) → Agrees n s z → N s ≡ N z) → (p : PatternTree) (s z : ℕ → Term) (of : ℕ → Class) (t : Term) (ns : LocalTypes) → Agrees n s z →
    PatternAdds (bounded (N s) of) p t ns → PatternAdds (bounded (N z) of) p t ns
parts-moves n N f p s z of t ns a h = subst (λ (m : TypedNames). PatternAdds (bounded m of) p t ns) (f s z a) h

pub parts-small : (w : TypedNames) (of : ℕ → Class) (p : PatternTree) (t : Term) (ns : LocalTypes) → PatternAdds (bounded w of) p t ns → nodes t ≤ 4096
parts-small w of (pattern s k) t ns h = h.0

pub arm_name : {A : State} (N : (ℕ → Term) → TypedNames) (sp : Span) (x : List ℕ) (v : ℕ) (ls ms : List Local) (l : Local) → v < count A → ms ≡ ls ++ l ∷ [] → key_of l.key ≡ name x → l.variable ≡ v →
    NamesOf A A ls ms N (pattern sp (trees.name_pattern x)) v
arm_name {A = A} N sp x v ls ms l b e p q = record {
  added = l ∷ [];
  after_is = e;
  below = All-cons (λ (k : Local). k.variable < count A) l [] (subst (λ (k : ℕ). k < count A) (sym q) b) (All-nil (λ (k : Local). k.variable < count A));
  gives =
      let read : (s : ℕ → Term) → scope_at s (l ∷ []) ≡ (name x, s v) ∷ [] = λ s. ap (λ (y : Key). (y, s l.variable) ∷ []) p ∙ ap (λ (k : ℕ). (name x, s k) ∷ []) q in
      record {
        more = omega arith;
        fixed = λ s z a. read s ∙ ap (λ (t : Term). (name x, t) ∷ []) (a v b) ∙ sym (read z);
        sound = λ s of d h. (h, (d v, read s));
        complete = λ s of d h ns c. (s, λ _ _. refl, h, d, read s ∙ sym c.1);
      };
}

pub arm_pair_pattern : {A B1 B2 B3 B4 C : State} (N : (ℕ → Term) → TypedNames) → ((s z : ℕ → Term) → Agrees (count A) s z → N s ≡ N z) → (sp : Span) (p q : PatternTree) (v l r : ℕ) (ls ms os : List Local) → v < count A →
    AnyTerm A B1 l → AnyTerm B1 B2 r → NamesOf B2 B3 ls ms N p l → NamesOf B3 B4 ms os N q r → Adds B4 C (λ s of. s v ≡ pair_of (s l) (s r)) →
    NamesOf A C ls os N (pattern sp (trees.pair_pattern p q)) v
arm_pair_pattern {A = A} {C = C} N f sp p q v l r ls ms os inside p1 p2 p3 p4 p5 = record {
  added = p3.added ++ p4.added;
  after_is = p4.after_is ∙ ap (λ (k : List Local). k ++ p4.added) p3.after_is ∙ append_assoc ls p3.added p4.added;
  below =
      let h = p4.gives.more in
      let k = p5.more in
      locals-append (count C) p3.added p4.added (locals-weaker _ (count C) p3.added (omega arith) p3.below) (locals-weaker _ (count C) p4.added (omega arith) p4.below);
  gives =
      let q2 = gives_then (λ s of u. nodes u ≤ 4096) (λ x s of u. nodes u ≤ 4096) p1 p2 (λ x s z of y g h. h) in
      let q3 = gives_then _ (λ x s of ns. PatternAdds (bounded (N s) of) p x.0 ns) q2 p3.gives (λ x s z of y g h. parts-moves (count A) N f p s z of x.0 y g h) in
      let q4 = gives_then _ (λ x s of ns. PatternAdds (bounded (N s) of) q x.0.1 ns) q3 p4.gives (λ x s z of y g h. parts-moves (count A) N f q s z of x.0.1 y g h) in
      let q5 = gives_then _ (λ x s of y. s v ≡ pair_of x.0.0.0 x.0.0.1) q4 p5 (λ x s z of y g h. sym (g v inside) ∙ h) in
      gives_as (λ s. scope_at s (p3.added ++ p4.added)) _ (λ s of ns. PatternAdds (bounded (N s) of) (pattern sp (trees.pair_pattern p q)) (s v) ns) q5
      (λ s z a. scope-fixed (count C) (p3.added ++ p4.added)
      (let h = p4.gives.more in let k = p5.more in locals-append (count C) p3.added p4.added (locals-weaker _ (count C) p3.added (omega arith) p3.below) (locals-weaker _ (count C) p4.added (omega arith) p4.below)) s z a)
      (λ s of b h. (b v, (s l, s r, scope_at s p3.added, scope_at s p4.added, h.1, h.0.0.1, h.0.1, scope-append s p3.added p4.added)))
      (λ s of ns h. (
        ((((h.1.0, h.1.1), h.1.2), h.1.3), tt),
        ((((parts-small (N s) of p h.1.0 h.1.2 h.1.5, parts-small (N s) of q h.1.1 h.1.3 h.1.6), h.1.5), h.1.6), h.1.4),
        λ z a e.
            scope-append z p3.added p4.added
            ∙ ap (λ (k : LocalTypes). k ++ scope_at z p3.added) (ap (λ x. x.0.1) e)
            ∙ ap (λ (k : LocalTypes). h.1.3 ++ k) (ap (λ x. x.0.0.1) e)
            ∙ sym h.1.7,
      ));
}

pub arm_record : {A B1 B2 C : State} (N : (ℕ → Term) → TypedNames) → ((s z : ℕ → Term) → Agrees (count A) s z → N s ≡ N z) → (sp : Span) (x : List ℕ) (p : PatternTree) (v h : ℕ) (ls ms : List Local) → v < count A →
    AnyTerm A B1 h → Adds B1 B2 (λ s of. IsRecord (N s).datatypes x (s v) (s h)) → NamesOf B2 C ls ms N p h →
    NamesOf A C ls ms N (pattern sp (trees.record_pattern x p)) v
arm_record {A = A} {C = C} N f sp x p v h ls ms inside p1 p2 p3 = record {
  added = p3.added;
  after_is = p3.after_is;
  below = p3.below;
  gives =
      let q2 = gives_and (λ s of u. nodes u ≤ 4096) (λ u s of. IsRecord (N s).datatypes x (s v) u) p1 p2
      (λ u s z of a k. subst (λ (t : Term). IsRecord (N z).datatypes x t u) (a v inside) (subst (λ (m : TypedNames). IsRecord m.datatypes x (s v) u) (f s z a) k)) in
      let q3 = gives_then _ (λ u s of ns. PatternAdds (bounded (N s) of) p u ns) q2 p3.gives (λ u s z of ns a k. parts-moves (count A) N f p s z of u ns a k) in
      gives_as (λ s. scope_at s p3.added) _ (λ s of ns. PatternAdds (bounded (N s) of) (pattern sp (trees.record_pattern x p)) (s v) ns) q3
      (λ s z a. scope-fixed (count C) p3.added p3.below s z a)
      (λ s of b k. (b v, (s h, k.0.1, k.1)))
      (λ s of ns k. ((k.1.0, ns), ((parts-small (N s) of p k.1.0 ns k.1.2, k.1.1), k.1.2), λ z a e. ap (λ x. x.1) e));
}

pub added_below : {A B : State} (ls ms : List Local) (P : (ℕ → Term) → (ℕ → Class) → LocalTypes → Type 0) → AreLocalsBelow (count A) ls → AddsNames A B ls ms P → AreLocalsBelow (count B) ms
added_below {A = A} {B = B} ls ms P h p =
    subst (λ (ks : List Local). AreLocalsBelow (count B) ks) (sym p.after_is) (locals-append (count B) ls p.added (locals-weaker (count A) (count B) ls p.gives.more h) p.below)
