-- Facts of a system.
use Rattle.std.proofs.Common.{◌≡◌, ◌↔◌, ℕ, ◌+◌, ◌-◌, ◌<◌, ◌≤◌, ◌++◌, List, [], ◌∷◌, All, length, get_or, refl, sym, ap, ◌∙◌, subst, arith}
use Rattle.std.specs.Prelude.{slice_index}
use Rattle.std.proofs.lemmas.List.{get_or_append_left, get_or_push, length_push}
use Rattle.std.proofs.lemmas.List.Elements.{All-nil, All-cons, All-append}
use Rattle.nesl_types_shared.specs.Term.{Term, int, bool, char, variable, seq_of, pair_of, named}
use Rattle.nesl_types_shared.specs.Numbering.{IsBelow}
use Rattle.nesl_types_shared.specs.Substitution.{substitute}
use Rattle.nesl_types_shared.specs.Types.{type_at}
use Rattle.nesl_types_shared.specs.Renames.{replacement}
use Rattle.nesl_types_shared.proofs.Substitutions.{substitute-same, substitute-substitute}
use Rattle.nesl_unify_graph.specs.declared.node.Node.{Node}
use Rattle.nesl_unify_graph.specs.declared.node.Node.TheVariants.{Free, Same, Int, Bool as Boolean, Char, Named, SeqOf, Both, Part}
use Rattle.nesl_unify_graph.specs.declared.instances.Instances.{Instances}
use Rattle.nesl_unify_graph.specs.Graph.{node_type}
use Rattle.nesl_unify_graph.specs.Instances.{parts_in, base_in, place_in, AreBelow}
use Rattle.nesl_unify.specs.declared.fact.Fact.{Fact}
use Rattle.nesl_unify.specs.declared.flat.Flat.{Flat}
use Rattle.nesl_unify.specs.declared.flat.Flat.TheVariants as flat
use Rattle.nesl_unify.specs.Flat.{flat_type}
use Rattle.nesl_unify.specs.Facts.{IsSaid, Holds, IsFact, AreFacts, AreTrue, flat_node, IsKept, IsInstanceNode}

-- types of the variables of a type are all that it sees
pub substitute_below : (n : ℕ) (f g : ℕ → Term) (t : Term) → IsBelow n t → ((v : ℕ) → v < n → f v ≡ g v) → substitute f t ≡ substitute g t
substitute_below n f g int b h = refl
substitute_below n f g bool b h = refl
substitute_below n f g char b h = refl
substitute_below n f g (variable v) b h = h v b
substitute_below n f g (seq_of t) b h = ap seq_of (substitute_below n f g t b h)
substitute_below n f g (pair_of t u) b h = let x = substitute_below n f g t b.0 h in let y = substitute_below n f g u b.1 h in cc
substitute_below n f g (named m) b h = refl

pub below_more : (m n : ℕ) (t : Term) → m ≤ n → IsBelow m t → IsBelow n t
below_more m n int l h = tt
below_more m n bool l h = tt
below_more m n char l h = tt
below_more m n (variable v) l h = omega arith
below_more m n (seq_of t) l h = below_more m n t l h
below_more m n (pair_of t u) l h = (below_more m n t l h.0, below_more m n u l h.1)
below_more m n (named k) l h = tt

-- each variable for itself
pub substitute_itself : (t : Term) → substitute variable t ≡ t
substitute_itself int = refl
substitute_itself bool = refl
substitute_itself char = refl
substitute_itself (variable v) = refl
substitute_itself (seq_of t) = ap seq_of (substitute_itself t)
substitute_itself (pair_of t u) = let x = substitute_itself t in let y = substitute_itself u in cc
substitute_itself (named n) = refl

-- an instance's places
pub place_below : (i : Instances) (n r v : ℕ) → AreBelow n i → v < length i.fresh.items - base_in i r → place_in i r v < n
place_below i n r v a l = a (base_in i r + v) 0 (omega arith)

-- types of n variables are all that a node in n variables sees
pub said_same : (i : Instances) (n : ℕ) (w z : ℕ → Term) (t : Term) (m : Node) → AreBelow n i → IsSaid i n m → ((q : ℕ) → q < n → z q ≡ w q) → node_type i z t m ≡ node_type i w t m
said_same i n w z t Free a k h = absurd k
said_same i n w z t (Same q) a k h = h q k
said_same i n w z t Int a k h = refl
said_same i n w z t Boolean a k h = refl
said_same i n w z t Char a k h = refl
said_same i n w z t (Named m) a k h = refl
said_same i n w z t (SeqOf q) a k h = ap seq_of (h q k)
said_same i n w z t (Both q r) a k h = let x = h q k.0 in let y = h r k.1 in cc
said_same i n w z t (Part r j) a k h =
    substitute_below (length i.fresh.items - base_in i r) (λ v. z (place_in i r v)) (λ v. w (place_in i r v)) (type_at (parts_in i r) j) k.below
    (λ v l. h (place_in i r v) (place_below i n r v a l))

-- the type of a free place doesn't matter to a node that says something
pub said_any : (i : Instances) (n : ℕ) (w : ℕ → Term) (t u : Term) (m : Node) → IsSaid i n m → node_type i w t m ≡ node_type i w u m
said_any i n w t u Free k = absurd k
said_any i n w t u (Same q) k = refl
said_any i n w t u Int k = refl
said_any i n w t u Boolean k = refl
said_any i n w t u Char k = refl
said_any i n w t u (Named m) k = refl
said_any i n w t u (SeqOf q) k = refl
said_any i n w t u (Both q r) k = refl
said_any i n w t u (Part r j) k = refl

pub said_more : (i : Instances) (m n : ℕ) (k : Node) → m ≤ n → IsSaid i m k → IsSaid i n k
said_more i m n Free l h = h
said_more i m n (Same q) l h = omega arith
said_more i m n Int l h = tt
said_more i m n Boolean l h = tt
said_more i m n Char l h = tt
said_more i m n (Named j) l h = tt
said_more i m n (SeqOf q) l h = omega arith
said_more i m n (Both q r) l h = let a = h.0 in let b = h.1 in (omega arith, omega arith)
said_more i m n (Part r j) l h = h

-- nodes stay as they are where the parts of instances do
pub said_kept : (i j : Instances) (n : ℕ) (m : Node) → IsKept i j → IsSaid i n m → IsSaid j n m
said_kept i j n Free k h = h
said_kept i j n (Same q) k h = h
said_kept i j n Int k h = tt
said_kept i j n Boolean k h = tt
said_kept i j n Char k h = tt
said_kept i j n (Named m) k h = tt
said_kept i j n (SeqOf q) k h = h
said_kept i j n (Both q r) k h = h
said_kept i j n (Part r p) k h = (k r p h).0

pub type_kept : (i j : Instances) (n : ℕ) (w : ℕ → Term) (t : Term) (m : Node) → IsKept i j → IsSaid i n m → node_type j w t m ≡ node_type i w t m
type_kept i j n w t Free k h = absurd h
type_kept i j n w t (Same q) k h = refl
type_kept i j n w t Int k h = refl
type_kept i j n w t Boolean k h = refl
type_kept i j n w t Char k h = refl
type_kept i j n w t (Named m) k h = refl
type_kept i j n w t (SeqOf q) k h = refl
type_kept i j n w t (Both q r) k h = refl
type_kept i j n w t (Part r p) k h = (k r p h).1 w

pub kept_none : (i : Instances) → IsKept i i
kept_none i r k h = (h, λ w. refl)

-- a list with an item more
all_push : {X : Type 0} (P : X → Type 0) (xs : List X) (x : X) → All P xs → P x → All P (xs ++ x ∷ [])
all_push P xs x a h = All-append P xs (x ∷ []) a (All-cons P x [] h (All-nil P))

all_first : {X : Type 0} (P : X → Type 0) (xs : List X) (x : X) → All P (xs ++ x ∷ []) → All P xs
all_first P xs x a k d l = subst P (get_or_append_left xs (x ∷ []) d k l) (a k d (omega (arith, length_push xs x)))

all_last : {X : Type 0} (P : X → Type 0) (xs : List X) (x : X) → All P (xs ++ x ∷ []) → P x
all_last P xs x a = subst P (get_or_push xs x x (length xs) refl) (a (length xs) x (omega (arith, length_push xs x)))

-- no facts
pub facts_none : (i : Instances) (n : ℕ) (fs : List Fact) → i.fresh.items ≡ [] → fs ≡ [] → AreFacts i n fs
facts_none i n fs e d = record {
  below = subst (All (λ q. q < n)) (sym e) (All-nil (λ (q : ℕ). q < n));
  made = subst (All (IsFact i n)) (sym d) (All-nil (IsFact i n));
}

pub true_none : (i : Instances) (fs : List Fact) (s : ℕ → Term) → fs ≡ [] → AreTrue i fs s
true_none i fs s e = subst (λ l. AreTrue i l s) (sym e) (All-nil (Holds i s))

-- a variable more
pub facts_longer : (i : Instances) (m n : ℕ) (fs : List Fact) → m ≤ n → AreFacts i m fs → AreFacts i n fs
facts_longer i m n fs l h = record {
  below = λ k d b. let x = h.below k d b in omega arith;
  made = λ k d b. let x = h.made k d b in let y = x.0 in (omega arith, said_more i m n (get_or fs k d).node l x.1);
}

-- the facts stay where the parts of instances do
pub facts_kept : (i j : Instances) (n : ℕ) (fs : List Fact) → AreFacts i n fs → IsKept i j → AreBelow n j → AreFacts j n fs
facts_kept i j n fs h k b = record {
  below = b;
  made = λ p d l. let y = h.made p d l in (y.0, said_kept i j n (get_or fs p d).node k y.1);
}

-- a fact more
pub facts_push : (i j : Instances) (n : ℕ) (fs gs : List Fact) (f : Fact) → AreFacts i n fs → IsKept i j → AreBelow n j → IsFact j n f → gs ≡ fs ++ f ∷ [] → AreFacts j n gs
facts_push i j n fs gs f h k b x e = record {
  below = b;
  made = subst (All (IsFact j n)) (sym e) (all_push (IsFact j n) fs f (λ p d l. let y = h.made p d l in (y.0, said_kept i j n (get_or fs p d).node k y.1)) x);
}

pub true_kept : (i j : Instances) (n : ℕ) (fs : List Fact) (s : ℕ → Term) → AreFacts i n fs → IsKept i j → AreTrue j fs s ↔ AreTrue i fs s
true_kept i j n fs s h k = (
  λ a p d l. let f = get_or fs p d in a p d l ∙ type_kept i j n s (s f.variable) f.node k (h.made p d l).1,
  λ a p d l. let f = get_or fs p d in a p d l ∙ sym (type_kept i j n s (s f.variable) f.node k (h.made p d l).1),
)

pub true_push : (i j : Instances) (n : ℕ) (fs gs : List Fact) (f : Fact) (s : ℕ → Term) (t : Term) → AreFacts i n fs → IsKept i j → gs ≡ fs ++ f ∷ [] → node_type j s (s f.variable) f.node ≡ t →
    AreTrue j gs s ↔ (AreTrue i fs s × (s f.variable ≡ t))
true_push i j n fs gs f s t h k e d =
    let same = true_kept i j n fs s h k in (
      λ a. let b = subst (λ l. AreTrue j l s) e a in (same.0 (all_first (Holds j s) fs f b), all_last (Holds j s) fs f b ∙ d),
      λ a. subst (λ l. AreTrue j l s) (sym e) (all_push (Holds j s) fs f (same.1 a.0) (a.1 ∙ sym d)),
    )

-- types put for the variables of types that make the facts true
node_with : (r : ℕ → Term) (i : Instances) (s : ℕ → Term) (t : Term) (m : Node) → substitute r (node_type i s t m) ≡ node_type i (λ v. substitute r (s v)) (substitute r t) m
node_with r i s t Free = refl
node_with r i s t (Same q) = refl
node_with r i s t Int = refl
node_with r i s t Boolean = refl
node_with r i s t Char = refl
node_with r i s t (Named k) = refl
node_with r i s t (SeqOf q) = refl
node_with r i s t (Both p q) = refl
node_with r i s t (Part p k) = substitute-substitute r (λ v. s (place_in i p v)) (type_at (parts_in i p) k)

pub true_with : (r : ℕ → Term) (i : Instances) (fs : List Fact) (s : ℕ → Term) → AreTrue i fs s → AreTrue i fs (λ v. substitute r (s v))
true_with r i fs s h p d l =
    let f = get_or fs p d in
    ap (substitute r) (h p d l) ∙ node_with r i s (s f.variable) f.node

-- the variables of a system decide
pub true_same : (i : Instances) (n : ℕ) (fs : List Fact) (s z : ℕ → Term) → AreFacts i n fs → ((v : ℕ) → v < n → s v ≡ z v) → AreTrue i fs s → AreTrue i fs z
true_same i n fs s z h e a p d l =
    let f = get_or fs p d in
    let x = h.made p d l in
    sym (e f.variable x.0) ∙ a p d l ∙ said_same i n z s (s f.variable) f.node h.below x.1 e ∙ said_any i n z (s f.variable) (z f.variable) f.node x.1

-- the node of a flat type
pub flat_said : (i : Instances) (n : ℕ) (f : Flat) → IsBelow n (flat_type f) → IsSaid i n (flat_node f)
flat_said i n flat.Int h = tt
flat_said i n flat.Bool h = tt
flat_said i n flat.Char h = tt
flat_said i n (flat.Var v) h = h
flat_said i n (flat.Named m) h = tt
flat_said i n (flat.SeqOf v) h = h
flat_said i n (flat.Both v w) h = h

pub flat_same : (i : Instances) (s : ℕ → Term) (t : Term) (f : Flat) → node_type i s t (flat_node f) ≡ substitute s (flat_type f)
flat_same i s t flat.Int = refl
flat_same i s t flat.Bool = refl
flat_same i s t flat.Char = refl
flat_same i s t (flat.Var v) = refl
flat_same i s t (flat.Named m) = refl
flat_same i s t (flat.SeqOf v) = refl
flat_same i s t (flat.Both v w) = refl

-- types without places for their variables stay
pub replaced_none : (ts : List Term) (t : Term) → substitute (replacement ts []) t ≡ t
replaced_none ts t = substitute-same (replacement ts []) variable t (λ v. refl) ∙ substitute_itself t

-- an instance's node more
pub instance_facts : (i j : Instances) (n : ℕ) (fs gs : List Fact) (f : Fact) (fresh : List ℕ) (t : Term) → AreFacts i n fs → f.variable < n → All (λ v. v < n) fresh → IsInstanceNode i j fresh t f.node →
    gs ≡ fs ++ f ∷ [] → AreFacts j n gs
instance_facts i j n fs gs f fresh t h v a x e = facts_push i j n fs gs f h x.kept (x.below n h.below a) (v, x.said n a) e

pub instance_true : (i j : Instances) (n : ℕ) (fs gs : List Fact) (f : Fact) (fresh : List ℕ) (t : Term) (s : ℕ → Term) → AreFacts i n fs → IsInstanceNode i j fresh t f.node → gs ≡ fs ++ f ∷ [] →
    AreTrue j gs s ↔ (AreTrue i fs s × (s f.variable ≡ substitute (λ v. s (slice_index fresh v)) t))
instance_true i j n fs gs f fresh t s h x e = true_push i j n fs gs f s (substitute (λ v. s (slice_index fresh v)) t) h x.kept e (x.same s (s f.variable))
