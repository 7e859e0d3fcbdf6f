-- What an apply-to-each adds.
use Rattle.std.proofs.Common.{◌≡◌, ◌<◌, ◌≤◌, ℕ, List, [], ◌∷◌, ◌++◌, map, refl, sym, ap, ◌∙◌, subst, arith, append_assoc, append-nil}
use Rattle.std.specs.Prelude.{All, Some, None, slice_get}
use Rattle.nesl_lex.specs.declared.token.Span.{Span}
use Rattle.nesl_types_shared.specs.Term.{Term, bool, seq_of, nodes}
use Rattle.nesl_syntax_tree.specs.Trees.{PatternTree, Tree, Binders, node, no_binders, binder, with_last_binder}
use Rattle.nesl_syntax_tree.specs.Trees as trees
use Rattle.nesl_infer_rules.specs.declared.state.State.{State}
use Rattle.nesl_infer_rules.specs.declared.state.Local.{Local}
use Rattle.nesl_infer_rules.specs.World.{Assumptions, TypedNames}
use Rattle.nesl_infer_rules.specs.Typing.{Key, element, LocalTypes, PatternAdds, PatternsAdd, BindersAdd, HasType}
use Rattle.nesl_infer_rules.specs.Typing.{HaveElements}
use Rattle.nesl_infer_rules.specs.Principal.{bounded}
use Rattle.nesl_infer_rules.specs.Steps.{Agrees, count, Gives, Adds, AddsNames, key_of, scope_at, AreLocalsBelow}
use Rattle.nesl_infer_rules.proofs.Places.{IsFixed, scope-fixed, typed-moves, small}
use Rattle.nesl_infer_rules.proofs.Steps.{gives_then, gives_and, gives_as, adds_as}
use Rattle.nesl_infer_rules.proofs.Arms.{AnyTerm, Exactly, Types}
use Rattle.nesl_infer_rules.proofs.Instances.{map-push}
use Rattle.std.proofs.lemmas.List.Elements.{All-nil, All-cons, All-head, All-tail}
use Rattle.nesl_infer_rules.proofs.Patterns.{NamesOf, scope-append, locals-weaker, locals-append, parts-moves}
use Rattle.nesl_infer_rules.proofs.Lets.{under, under-moves}

elements-push : (w : Assumptions) (sc : LocalTypes) (bs : Binders) (is : List Term) (p : PatternTree) (e : Tree) (i : Term) → HaveElements w sc bs is → HasType w sc e (seq_of i) → HaveElements w sc (with_last_binder bs p e) (is ++ i ∷ [])
elements-push w sc no_binders [] p e i h k = (k, tt)
elements-push w sc no_binders (j ∷ is) p e i h k = absurd h
elements-push w sc (binder q d bs) [] p e i h k = absurd h
elements-push w sc (binder q d bs) (j ∷ is) p e i h k = (h.0, elements-push w sc bs is p e i h.1 k)

-- the last binder apart
record LastElement (w : Assumptions) (sc : LocalTypes) (bs : Binders) (e : Tree) (all : List Term) : Type 0 where
  is : List Term
  i : Term
  before : HaveElements w sc bs is
  typed : HasType w sc e (seq_of i)
  whole : all ≡ is ++ i ∷ []

elements-pop : (w : Assumptions) (sc : LocalTypes) (bs : Binders) (p : PatternTree) (e : Tree) (all : List Term) → HaveElements w sc (with_last_binder bs p e) all → LastElement w sc bs e all
elements-pop w sc no_binders p e [] h = absurd h
elements-pop w sc no_binders p e (j ∷ []) h = record { is = []; i = j; before = tt; typed = h.0; whole = refl }
elements-pop w sc no_binders p e (j ∷ (k ∷ all)) h = absurd h.1
elements-pop w sc (binder q d bs) p e [] h = absurd h
elements-pop w sc (binder q d bs) p e (j ∷ all) h =
    let k = elements-pop w sc bs p e all h.1 in
    record { is = j ∷ k.is; i = k.i; before = (h.0, k.before); typed = k.typed; whole = ap (λ (l : List Term). j ∷ l) k.whole }

abbrev pub ElementsOf : State → State → ((ℕ → Term) → TypedNames) → ((ℕ → Term) → LocalTypes) → Binders → List ℕ → Type 0
ElementsOf A B N S bs vs = Gives A B (λ s. map s vs) (λ s of is. HaveElements (bounded (N s) of) (S s) bs is)

-- one sequence more
pub arm_value : {A B B1 B2 C : State} (N : (ℕ → Term) → TypedNames) (S : (ℕ → Term) → LocalTypes) → IsFixed (count A) N S → (bs : Binders) (p : PatternTree) (e : Tree) (vs : List ℕ) (i q : ℕ) →
    ElementsOf A B N S bs vs → Gives B B1 (λ s. s q) (λ s of t. HasType (bounded (N s) of) (S s) e t) → AnyTerm B1 B2 i → Adds B2 C (λ s of. s q ≡ seq_of (s i)) →
    ElementsOf A C N S (with_last_binder bs p e) (vs ++ i ∷ [])
arm_value {A = A} N S f bs p e vs i q p1 p2 p3 p4 =
    let q2 = gives_then (λ s of is. HaveElements (bounded (N s) of) (S s) bs is) (λ x s of t. HasType (bounded (N s) of) (S s) e t) p1 p2
    (λ x s z of y g h. typed-moves (count A) N S f e s z of y g h) in
    let q3 = gives_then _ (λ x s of t. nodes t ≤ 4096) q2 p3 (λ x s z of y g h. h) in
    let q4 = gives_and _ (λ x s of. x.0.1 ≡ seq_of x.1) q3 p4 (λ x s z of g h. h) in
    gives_as (λ s. map s (vs ++ i ∷ [])) _ (λ s of is. HaveElements (bounded (N s) of) (S s) (with_last_binder bs p e) is) q4
    (λ s z a. map-push s vs i ∙ ap (λ x. x.0.0 ++ x.1 ∷ []) (q4.fixed s z a) ∙ sym (map-push z vs i))
    (λ s of b h. subst (λ (is : List Term). HaveElements (bounded (N s) of) (S s) (with_last_binder bs p e) is) (sym (map-push s vs i))
    (elements-push (bounded (N s) of) (S s) bs (map s vs) p e (s i) h.0.0.0 (subst (λ (t : Term). HasType (bounded (N s) of) (S s) e t) h.1 h.0.0.1)))
    (λ s of all h.
    let k = elements-pop (bounded (N s) of) (S s) bs p e all h in
    let l = small (bounded (N s) of) (S s) e (seq_of k.i) 4096 k.typed in (
      ((k.is, seq_of k.i), k.i),
      (((k.before, k.typed), omega arith), refl),
      λ z a e. map-push z vs i ∙ ap (λ x. x.0.0 ++ x.1 ∷ []) e ∙ sym k.whole,
    ))

abbrev pub DrawsOf : State → State → List Local → List Local → ((ℕ → Term) → TypedNames) → Binders → List ℕ → Type 0
DrawsOf A B ls ms N bs vs = AddsNames A B ls ms (λ s of ns. BindersAdd (bounded (N s) of) bs (map s vs) ns)

pub arm_each : {A B1 B2 B3 B4 C : State} (N : (ℕ → Term) → TypedNames) (ls ms : List Local) → IsFixed (count A) N (λ s. scope_at s ls) → (sp : Span) (e : Tree) (bs : Binders) (vs : List ℕ) (i v : ℕ) → v < count A →
    ElementsOf A B1 N (λ s. scope_at s ls) bs vs → DrawsOf B1 B2 ls ms N bs vs → AnyTerm B2 B3 i → Types B3 B4 N (λ s. scope_at s ms) e i → Adds B4 C (λ s of. s v ≡ seq_of (s i)) →
    Types A C N (λ s. scope_at s ls) (node sp (trees.each e bs)) v
arm_each {A = A} N ls ms f sp e bs vs i v inside p1 p2 p3 p4 p5 =
    let S = λ (s : ℕ → Term). scope_at s ls in
    let q2 = gives_then (λ s of is. HaveElements (bounded (N s) of) (scope_at s ls) bs is) (λ is s of ns. BindersAdd (bounded (N s) of) bs is ns) p1 p2.gives
    (λ x s z of y g h. subst (λ (ns : TypedNames). BindersAdd (bounded ns of) bs x y) (f.names s z g) h) in
    let q3 = gives_then _ (λ x s of t. nodes t ≤ 4096) q2 p3 (λ x s z of y g h. h) in
    let q4 = gives_and _ (λ x s of. HasType (bounded (N s) of) (x.0.1 ++ scope_at s ls) e x.1) q3 (under N ls ms p2.added e i p2.after_is p4)
    (λ x s z of g h. under-moves (count A) N S f x.0.1 e s z of x.1 g h) in
    let q5 = gives_and _ (λ x s of. s v ≡ seq_of x.1) q4 p5 (λ x s z of g h. sym (g v inside) ∙ h) in
    adds_as _ (λ s of. HasType (bounded (N s) of) (scope_at s ls) (node sp (trees.each e bs)) (s v)) q5
    (λ s of b h. (b v, (map s vs, scope_at s p2.added, s i, h.0.0.0.0, h.0.0.0.1, h.0.1, h.1)))
    (λ s of h.
    let k = h.1 in
    (((k.0, k.1), k.2), ((((k.3, k.4), small (bounded (N s) of) (k.1 ++ scope_at s ls) e k.2 4096 k.5), k.5), k.6)))

pub arm_filtered_each : {A B1 B2 B3 B4 B5 B6 C : State} (N : (ℕ → Term) → TypedNames) (ls ms : List Local) → IsFixed (count A) N (λ s. scope_at s ls) → (sp : Span) (e : Tree) (bs : Binders) (d : Tree) (vs : List ℕ) (i j v : ℕ) → v < count A →
    ElementsOf A B1 N (λ s. scope_at s ls) bs vs → DrawsOf B1 B2 ls ms N bs vs → AnyTerm B2 B3 i → Exactly B3 B4 j bool →
    Types B4 B5 N (λ s. scope_at s ms) e i → Types B5 B6 N (λ s. scope_at s ms) d j → Adds B6 C (λ s of. s v ≡ seq_of (s i)) →
    Types A C N (λ s. scope_at s ls) (node sp (trees.filtered_each e bs d)) v
arm_filtered_each {A = A} N ls ms f sp e bs d vs i j v inside p1 p2 p3 p4 p5 p6 p7 =
    let S = λ (s : ℕ → Term). scope_at s ls in
    let q2 = gives_then (λ s of is. HaveElements (bounded (N s) of) (scope_at s ls) bs is) (λ is s of ns. BindersAdd (bounded (N s) of) bs is ns) p1 p2.gives
    (λ x s z of y g h. subst (λ (ns : TypedNames). BindersAdd (bounded ns of) bs x y) (f.names s z g) h) in
    let q3 = gives_then _ (λ x s of t. nodes t ≤ 4096) q2 p3 (λ x s z of y g h. h) in
    let q4 = gives_then _ (λ x s of t. t ≡ bool) q3 p4 (λ x s z of y g h. h) in
    let q5 = gives_and _ (λ x s of. HasType (bounded (N s) of) (x.0.0.1 ++ scope_at s ls) e x.0.1) q4 (under N ls ms p2.added e i p2.after_is p5)
    (λ x s z of g h. under-moves (count A) N S f x.0.0.1 e s z of x.0.1 g h) in
    let q6 = gives_and _ (λ x s of. HasType (bounded (N s) of) (x.0.0.1 ++ scope_at s ls) d x.1) q5 (under N ls ms p2.added d j p2.after_is p6)
    (λ x s z of g h. under-moves (count A) N S f x.0.0.1 d s z of x.1 g h) in
    let q7 = gives_and _ (λ x s of. s v ≡ seq_of x.0.1) q6 p7 (λ x s z of g h. sym (g v inside) ∙ h) in
    adds_as _ (λ s of. HasType (bounded (N s) of) (scope_at s ls) (node sp (trees.filtered_each e bs d)) (s v)) q7
    (λ s of b h. (
      b v,
      (
        map s vs,
        scope_at s p2.added,
        s i,
        h.0.0.0.0.0.0,
        h.0.0.0.0.0.1,
        h.0.0.1,
        subst (λ (t : Term). HasType (bounded (N s) of) (scope_at s p2.added ++ scope_at s ls) d t) h.0.0.0.1 h.0.1,
        h.1,
      ),
    ))
    (λ s of h.
    let k = h.1 in (
      (((k.0, k.1), k.2), bool),
      ((((((k.3, k.4), small (bounded (N s) of) (k.1 ++ scope_at s ls) e k.2 4096 k.5), refl), k.5), k.6), k.7),
    ))

allparts-push : (w : Assumptions) (bs : Binders) (is : List Term) (ms os : LocalTypes) (p : PatternTree) (e : Tree) (i : Term) → PatternsAdd w bs is ms → PatternAdds w p i os → PatternsAdd w (with_last_binder bs p e) (is ++ i ∷ []) (os ++ ms)
allparts-push w no_binders [] ms os p e i h k = (os, [], k, refl, ap (λ (x : LocalTypes). os ++ x) h ∙ append-nil os)
allparts-push w no_binders (j ∷ is) ms os p e i h k = absurd h
allparts-push w (binder q d bs) [] ms os p e i h k = absurd h
allparts-push w (binder q d bs) (j ∷ is) ms os p e i h k =
    (h.0, os ++ h.1, h.2, allparts-push w bs is h.1 os p e i h.3 k, ap (λ (x : LocalTypes). os ++ x) h.4 ∙ sym (append_assoc os h.1 h.0))

record LastParts (w : Assumptions) (bs : Binders) (is : List Term) (p : PatternTree) (i : Term) (ns : LocalTypes) : Type 0 where
  ms : LocalTypes
  os : LocalTypes
  before : PatternsAdd w bs is ms
  parts : PatternAdds w p i os
  whole : ns ≡ os ++ ms

allparts-pop : (w : Assumptions) (bs : Binders) (is : List Term) (ns : LocalTypes) (p : PatternTree) (e : Tree) (i : Term) → PatternsAdd w (with_last_binder bs p e) (is ++ i ∷ []) ns → LastParts w bs is p i ns
allparts-pop w no_binders [] ns p e i h = record { ms = []; os = h.0; before = refl; parts = h.2; whole = h.4 ∙ ap (λ (x : LocalTypes). x ++ h.0) h.3 ∙ sym (append-nil h.0) }
allparts-pop w no_binders (j ∷ []) ns p e i h = absurd h.3
allparts-pop w no_binders (j ∷ (k ∷ is)) ns p e i h = absurd h.3
allparts-pop w (binder q d bs) [] ns p e i h = nothing bs h.1 h.3
  where
    nothing : (bs : Binders) (os : LocalTypes) → PatternsAdd w (with_last_binder bs p e) [] os → LastParts w (binder q d bs) [] p i ns
    nothing no_binders os k = absurd k
    nothing (binder r c cs) os k = absurd k
allparts-pop w (binder q d bs) (j ∷ is) ns p e i h =
    let k = allparts-pop w bs is h.1 p e i h.3 in
    record { ms = k.ms ++ h.0; os = k.os; before = (h.0, k.ms, h.2, k.before, refl); parts = k.parts; whole = h.4 ∙ ap (λ (x : LocalTypes). x ++ h.0) k.whole ∙ append_assoc k.os k.ms h.0 }

pub no_elements : {A : State} (N : (ℕ → Term) → TypedNames) (S : (ℕ → Term) → LocalTypes) → ElementsOf A A N S no_binders []
no_elements N S = record {
  more = omega arith;
  fixed = λ s z a. refl;
  sound = λ s of b h. (h, tt);
  complete = λ s of b h x c. (s, λ _ _. refl, h, b, none_is (bounded (N s) of) (S s) x c);
}
  where
    none_is : (w : Assumptions) (sc : LocalTypes) (is : List Term) → HaveElements w sc no_binders is → [] ≡ is
    none_is w sc [] h = refl
    none_is w sc (i ∷ is) h = absurd h

abbrev pub PartsOf : State → State → List Local → List Local → ((ℕ → Term) → TypedNames) → Binders → List ℕ → Type 0
PartsOf A B ls ms N bs vs = AddsNames A B ls ms (λ s of ns. PatternsAdd (bounded (N s) of) bs (map s vs) ns)

pub no_parts : {A : State} (N : (ℕ → Term) → TypedNames) (ls : List Local) → PartsOf A A ls ls N no_binders []
no_parts {A = A} N ls = record {
  added = [];
  after_is = sym (append-nil ls);
  below = All-nil (λ (x : Local). x.variable < count A);
  gives = record {
    more = omega arith;
    fixed = λ s z a. refl;
    sound = λ s of b h. (h, refl);
    complete = λ s of b h x c. (s, λ _ _. refl, h, b, sym c);
  };
}

map-fixed : (n : ℕ) (vs : List ℕ) (s z : ℕ → Term) → Agrees n s z → All (λ v. v < n) vs → map s vs ≡ map z vs
map-fixed n [] s z a h = refl
map-fixed n (v ∷ vs) s z a h =
    let e = a v (All-head (λ v. v < n) v vs h) in
    let d = map-fixed n vs s z a (All-tail (λ v. v < n) v vs h) in
    cc

-- one pattern more
pub arm_part : {A B C : State} (N : (ℕ → Term) → TypedNames) → ((s z : ℕ → Term) → Agrees (count A) s z → N s ≡ N z) → (ls ms os : List Local) (bs : Binders) (p : PatternTree) (e : Tree) (vs : List ℕ) (v : ℕ) → v < count A →
    PartsOf A B ls ms N bs vs → NamesOf B C ms os N p v → PartsOf A C ls os N (with_last_binder bs p e) (vs ++ v ∷ [])
arm_part {A = A} {B = B} {C = C} N f ls ms os bs p e vs v inside p1 p2 =
    let all : List Local = p1.added ++ p2.added in
    let under_all : AreLocalsBelow (count C) all =
    let a = p2.gives.more in locals-append (count C) p1.added p2.added (locals-weaker (count B) (count C) p1.added (omega arith) p1.below) p2.below in
    record {
      added = all;
      after_is = p2.after_is ∙ ap (λ (k : List Local). k ++ p2.added) p1.after_is ∙ append_assoc ls p1.added p2.added;
      below = under_all;
      gives =
          let q = gives_then (λ s of ns. PatternsAdd (bounded (N s) of) bs (map s vs) ns) (λ x s of ns. PatternAdds (bounded (N s) of) p (s v) ns) p1.gives p2.gives
          (λ x s z of y g h. subst (λ (t : Term). PatternAdds (bounded (N z) of) p t y) (g v inside) (parts-moves (count A) N f p s z of (s v) y g h)) in
          gives_as (λ s. scope_at s all) _ (λ s of ns. PatternsAdd (bounded (N s) of) (with_last_binder bs p e) (map s (vs ++ v ∷ [])) ns) q
          (λ s z a. scope-fixed (count C) all under_all s z a)
          (λ s of b h. subst (λ (sc : LocalTypes). PatternsAdd (bounded (N s) of) (with_last_binder bs p e) (map s (vs ++ v ∷ [])) sc) (sym (scope-append s p1.added p2.added))
          (subst (λ (is : List Term). PatternsAdd (bounded (N s) of) (with_last_binder bs p e) is (scope_at s p2.added ++ scope_at s p1.added)) (sym (map-push s vs v))
          (allparts-push (bounded (N s) of) bs (map s vs) (scope_at s p1.added) (scope_at s p2.added) p e (s v) h.0 h.1)))
          (λ s of ns h.
          let k = allparts-pop (bounded (N s) of) bs (map s vs) ns p e (s v) (subst (λ (is : List Term). PatternsAdd (bounded (N s) of) (with_last_binder bs p e) is ns) (map-push s vs v) h) in
          ((k.ms, k.os), (k.before, k.parts), λ z a q. scope-append z p1.added p2.added ∙ ap (λ (x : LocalTypes). x ++ scope_at z p1.added) (ap (λ x. x.1) q) ∙ ap (λ (x : LocalTypes). k.os ++ x) (ap (λ x. x.0) q) ∙ sym k.whole));
    }

-- the names of the patterns, over the first element
pub arm_draws : {A B : State} (N : (ℕ → Term) → TypedNames) (ls ms : List Local) (bs : Binders) (v : ℕ) (vs : List ℕ) (l : Local) → v < count A → key_of l.key ≡ element → l.variable ≡ v →
    PartsOf A B (ls ++ l ∷ []) ms N bs (v ∷ vs) → DrawsOf A B ls ms N bs (v ∷ vs)
arm_draws {A = A} {B = B} N ls ms bs v vs l inside q r p =
    let all : AreLocalsBelow (count B) (l ∷ p.added) =
    let a = p.gives.more in All-cons (λ (k : Local). k.variable < count B) l p.added (subst (λ (k : ℕ). k < count B) (sym r) (omega arith)) p.below in
    let read : (s : ℕ → Term) → scope_at s (l ∷ p.added) ≡ scope_at s p.added ++ (element, s v) ∷ [] = λ s.
    ap (λ (y : Key). scope_at s p.added ++ (y, s l.variable) ∷ []) q ∙ ap (λ (k : ℕ). scope_at s p.added ++ (element, s k) ∷ []) r in
    record {
      added = l ∷ p.added;
      after_is = p.after_is ∙ append_assoc ls (l ∷ []) p.added;
      below = all;
      gives =
          gives_as (λ s. scope_at s (l ∷ p.added)) _ (λ s of ns. BindersAdd (bounded (N s) of) bs (map s (v ∷ vs)) ns) p.gives
          (λ s z a. scope-fixed (count B) (l ∷ p.added) all s z a)
          (λ s of b h. (scope_at s p.added, h, read s))
          (λ s of ns h. (h.0, h.1, λ z a e. read z ∙ ap (λ (k : LocalTypes). k ++ (element, z v) ∷ []) e ∙ ap (λ (t : Term). h.0 ++ (element, t) ∷ []) (sym (a v inside)) ∙ sym h.2));
    }

pub no_draws : {A B : State} (N : (ℕ → Term) → TypedNames) (ls : List Local) (bs : Binders) → Adds A B (λ s of. ⊥) → DrawsOf A B ls ls N bs []
no_draws {A = A} {B = B} N ls bs p = record {
  added = [];
  after_is = sym (append-nil ls);
  below = All-nil (λ (x : Local). x.variable < count B);
  gives = gives_as (λ s. []) (λ s of x. ⊥) (λ s of ns. ⊥) p (λ s z a. refl) (λ s of b h. h) (λ s of ns h. absurd h);
}

pub front : (vs : List ℕ) (v : ℕ) → Some v ≡ slice_get vs 0 → (ws : List ℕ) × (vs ≡ v ∷ ws)
front [] v e = cc
front (w ∷ vs) v e = (vs, let k : w ≡ v = cc in ap (λ (x : ℕ). x ∷ vs) k)

pub no_front : (vs : List ℕ) → None ≡ slice_get vs 0 → vs ≡ []
no_front [] e = refl
no_front (w ∷ vs) e = cc
