-- One step after another, by which places are made one.
use Rattle.std.proofs.Common.{◌≡◌, ℕ, ◌+◌, ◌<◌, ◌≤◌, ◌↔◌, ◌++◌, List, [], ◌∷◌, All, length, refl, sym, ap, ◌∙◌, subst, arith, length-append}
use Rattle.std.proofs.lemmas.List.{get_or_append_left, get_or-append-add}
use Rattle.std.proofs.lemmas.List.Elements.{All-nil, All-push, All-same, All-weaker}
use Rattle.nesl_types_shared.specs.Term.{Term}
use Rattle.nesl_unify_graph.specs.declared.node.Node.{Node}
use Rattle.nesl_unify_graph.specs.declared.node.Node.TheVariants.{Free, Same, Int, Bool, Char, Named, SeqOf, Both, Part}
use Rattle.nesl_unify_graph.specs.declared.instances.Instances.{Instances}
use Rattle.nesl_unify_graph.specs.declared.unify.Pair.{Pair}
use Rattle.nesl_unify_graph.specs.Instances.{AreBelow}
use Rattle.nesl_unify_graph.specs.Graph.{Fits, IsFlat}
use Rattle.nesl_unify_graph.specs.Tables.{IsPlaced, IsTable, AreEqual, IsPairBelow, Continues, Joins}
use Rattle.nesl_unify_graph.specs.Steps.{IsGraph, IsFound, Moves}

abbrev pub Equals : (ℕ → Term) → Pair → Type 0
Equals w p = w p.first ≡ w p.second

pub equal_first : (w : ℕ → Term) (p : Pair) (ps : List Pair) → AreEqual w (p ∷ ps) → w p.first ≡ w p.second
equal_first w p ps h = h 0 p (omega arith)

pub equal_second : (w : ℕ → Term) (p q : Pair) (ps : List Pair) → AreEqual w (p ∷ (q ∷ ps)) → w q.first ≡ w q.second
equal_second w p q ps h = h 1 p (omega arith)

pub All_left : {X : Type 0} (P : X → Type 0) (xs ys : List X) → All P (xs ++ ys) → All P xs
All_left P xs ys h = λ k d l. subst P (get_or_append_left xs ys d k l) (h k d (omega (arith, length-append xs ys)))

pub All_right : {X : Type 0} (P : X → Type 0) (xs ys : List X) → All P (xs ++ ys) → All P ys
All_right P xs ys h = λ k d l. subst P (get_or-append-add xs ys k d) (h (length xs + k) d (omega (arith, length-append xs ys)))

-- a pair taken from the end
pub popped_equal : (w : ℕ → Term) (pending rest : List Pair) (p : Pair) → pending ≡ rest ++ p ∷ [] → AreEqual w pending ↔ (AreEqual w rest × (w p.first ≡ w p.second))
popped_equal w pending rest p e = rw e (
  λ h. (All_left (Equals w) rest (p ∷ []) h, equal_first w p [] (All_right (Equals w) rest (p ∷ []) h)),
  λ h. All-push (Equals w) rest p h.0 h.1,
)

pub popped_below : (n : ℕ) (pending rest : List Pair) (p : Pair) → pending ≡ rest ++ p ∷ [] → All (IsPairBelow n) pending → All (IsPairBelow n) rest × IsPairBelow n p
popped_below n pending rest p e h =
    let g = All-same (IsPairBelow n) (rest ++ p ∷ []) pending (sym e) h in
    (All_left (IsPairBelow n) rest (p ∷ []) g, All_right (IsPairBelow n) rest (p ∷ []) g 0 p (omega arith))

pub pairs_longer : (n m : ℕ) (pairs : List Pair) → n ≤ m → All (IsPairBelow n) pairs → All (IsPairBelow m) pairs
pairs_longer n m pairs l h = All-weaker (IsPairBelow n) (IsPairBelow m) (λ p b. let x : p.first < m = omega (arith, b.0) in let y : p.second < m = omega (arith, b.1) in (x, y)) pairs h

-- types that are continued
pub continues_none : (n : ℕ) (w : ℕ → Term) → Continues n w w
continues_none n w = record { agrees = λ p l. refl; bounded = λ most h. h }

continues_more : (n m : ℕ) (w y z : ℕ → Term) → n ≤ m → Continues n w y → Continues m y z → Continues n w z
continues_more n m w y z l a b = record {
  agrees = λ p k. b.agrees p (omega arith) ∙ a.agrees p k;
  bounded = λ most h. b.bounded most (a.bounded most h);
}

-- one step after another
pub moves_more : (i : Instances) (old mid new : List Node) (before now after : List Pair) → Moves i old before mid now → Moves i mid now new after → Moves i old before new after
moves_more i old mid new before now after a b = record {
  longer = omega (arith, a.longer, b.longer);
  sound = λ w f h. let g = b.sound w f h in a.sound w g.0 g.1;
  complete = λ w f h.
      let x = a.complete w f h in
      let y = b.complete x.types x.fits x.equal in
      record {
        types = y.types;
        continues = continues_more (length old) (length mid) w x.types y.types a.longer x.continues y.continues;
        fits = y.fits;
        equal = y.equal;
      };
}

pub moves_none : (i : Instances) (ns : List Node) (pairs : List Pair) → Moves i ns pairs ns pairs
moves_none i ns pairs = record {
  longer = omega arith;
  sound = λ w f h. (f, h);
  complete = λ w f h. record { types = w; continues = continues_none (length ns) w; fits = f; equal = h };
}

-- pairs of old places stay equal where the table is longer
pub moves_with : (i : Instances) (old new : List Node) (pairs : List Pair) → All (IsPairBelow (length old)) pairs → Moves i old [] new [] → Moves i old pairs new pairs
moves_with i old new pairs below m = record {
  longer = m.longer;
  sound = λ w f h. ((m.sound w f (All-nil (Equals w))).0, h);
  complete = λ w f h.
      let x = m.complete w f (All-nil (Equals w)) in
      record {
        types = x.types;
        continues = x.continues;
        fits = x.fits;
        equal = λ k d l. let b = below k d l in x.continues.agrees _ b.0 ∙ h k d l ∙ sym (x.continues.agrees _ b.1);
      };
}

-- two pairs that are equal at once, in tables that say the same
pub moves_found : (i : Instances) (old new : List Node) (pending : List Pair) (p q : Pair) → length new ≡ length old → ((w : ℕ → Term) → Fits i w new ↔ Fits i w old) →
    ((w : ℕ → Term) → Fits i w new → (w p.first ≡ w p.second) ↔ (w q.first ≡ w q.second)) → Moves i old (pending ++ p ∷ []) new (pending ++ q ∷ [])
moves_found i old new pending p q len same equal = record {
  longer = omega (arith, len);
  sound = λ w f h.
      let k = (popped_equal w (pending ++ q ∷ []) pending q refl).0 h in
      ((same w).0 f, (popped_equal w (pending ++ p ∷ []) pending p refl).1 (k.0, (equal w f).1 k.1));
  complete = λ w f h.
      let g = (same w).1 f in
      let k = (popped_equal w (pending ++ p ∷ []) pending p refl).0 h in
      record {
        types = w;
        continues = continues_none (length old) w;
        fits = g;
        equal = (popped_equal w (pending ++ q ∷ []) pending q refl).1 (k.0, (equal w g).0 k.1);
      };
}

-- a pair that is equal anyway
pub moves_equal : (i : Instances) (ns : List Node) (pending : List Pair) (p : Pair) → p.first ≡ p.second → Moves i ns (pending ++ p ∷ []) ns pending
moves_equal i ns pending p e = record {
  longer = omega arith;
  sound = λ w f h. (f, (popped_equal w (pending ++ p ∷ []) pending p refl).1 (h, ap w e));
  complete = λ w f h. record {
    types = w;
    continues = continues_none (length ns) w;
    fits = f;
    equal = ((popped_equal w (pending ++ p ∷ []) pending p refl).0 h).0;
  };
}

-- no types fit where none do after a step
pub none_after : (i : Instances) (old new : List Node) (before after : List Pair) → Moves i old before new after → ((w : ℕ → Term) → Fits i w new → AreEqual w after → ⊥) →
    (w : ℕ → Term) → Fits i w old → AreEqual w before → ⊥
none_after i old new before after m none w f h = let x = m.complete w f h in none x.types x.fits x.equal

-- all pairs are equal in the end, and links are made shorter
pub joins_all : (i : Instances) (old mid new : List Node) (pending : List Pair) → Moves i old pending mid [] → length new ≡ length mid → ((w : ℕ → Term) → Fits i w new ↔ Fits i w mid) →
    Joins i old pending new
joins_all i old mid new pending m len same = record {
  longer = omega (arith, len, m.longer);
  sound = λ w f. m.sound w ((same w).0 f) (All-nil (Equals w));
  complete = λ w f h. let x = m.complete w f h in (x.types, (x.continues, (same x.types).1 x.fits));
}

-- tables
placed_more : (i : Instances) (c d n p : ℕ) (m : Node) → c ≤ d → IsPlaced i c n p m → IsPlaced i d n p m
placed_more i c d n p Free l h = omega arith
placed_more i c d n p (Same q) l h = h
placed_more i c d n p Int l h = h
placed_more i c d n p Bool l h = h
placed_more i c d n p Char l h = h
placed_more i c d n p (Named m) l h = h
placed_more i c d n p (SeqOf q) l h = h
placed_more i c d n p (Both q r) l h = h
placed_more i c d n p (Part r k) l h = h

pub below_more : (i : Instances) (n m : ℕ) → n ≤ m → AreBelow n i → AreBelow m i
below_more i n m l h = All-weaker (λ (q : ℕ). q < n) (λ (q : ℕ). q < m) (λ q b. omega arith) i.fresh.items h

pub graph_of : (i : Instances) (count : ℕ) (ns : List Node) → count ≤ length ns → AreBelow count i → IsTable i count ns → IsGraph i ns
graph_of i count ns l below t = record {
  below = below_more i count (length ns) l below;
  table = λ p u. placed_more i count (length ns) (length ns) p _ l (t p u);
}

pub graph_after : (i : Instances) (old new : List Node) → length old ≤ length new → ((count : ℕ) → IsTable i count old → IsTable i count new) → IsGraph i old → IsGraph i new
graph_after i old new l t g = graph_of i (length old) new l g.below (t (length old) g.table)

-- two places and where their links end
pub ends_equal : (w : ℕ → Term) (p q x y : ℕ) → w p ≡ w x → w q ≡ w y → (w p ≡ w q) ↔ (w x ≡ w y)
ends_equal w p q x y a b = (λ e. sym a ∙ e ∙ b, λ e. a ∙ e ∙ sym b)

pub ends_turned : (w : ℕ → Term) (p q x y : ℕ) → w p ≡ w x → w q ≡ w y → (w p ≡ w q) ↔ (w y ≡ w x)
ends_turned w p q x y a b = (λ e. sym (sym a ∙ e ∙ b), λ e. a ∙ sym e ∙ sym b)

-- the table that a slice is of
pub found_of : (i : Instances) (old given put new : List Node) (pair ends : Pair) → given ≡ old → new ≡ put → IsFound i given put pair ends → IsFound i old new pair ends
found_of i old given put new pair ends e d f = rw (← e, d) f

pub found_moves : (i : Instances) (old new : List Node) (pending : List Pair) (pair ends : Pair) → IsFound i old new pair ends → Moves i old (pending ++ pair ∷ []) new (pending ++ ends ∷ [])
found_moves i old new pending pair ends f = moves_found i old new pending pair ends f.len f.same f.equal

pub found_graph : (i : Instances) (old new : List Node) (pair ends : Pair) → IsFound i old new pair ends → IsGraph i old → IsGraph i new
found_graph i old new pair ends f g = graph_after i old new (omega (arith, f.len)) f.table g

pub found_pending : (i : Instances) (old new : List Node) (pair ends : Pair) (pending : List Pair) → IsFound i old new pair ends → All (IsPairBelow (length old)) pending → All (IsPairBelow (length new)) pending
found_pending i old new pair ends pending f h = subst (λ (n : ℕ). All (IsPairBelow n) pending) (sym f.len) h

pub found_none : (i : Instances) (old new : List Node) (pair ends : Pair) → IsFound i old new pair ends → ((w : ℕ → Term) → Fits i w new → w ends.first ≡ w ends.second → ⊥) →
    (w : ℕ → Term) → Fits i w old → w pair.first ≡ w pair.second → ⊥
found_none i old new pair ends f none w h e = let g = (f.same w).1 h in none w g ((f.equal w g).0 e)

-- a table in which all links are short
pub record IsFlattened (i : Instances) (old new : List Node) : Type 0 where
  pub len : length new ≡ length old
  pub same : (w : ℕ → Term) → Fits i w new ↔ Fits i w old
  pub table : (count : ℕ) → IsTable i count old → IsTable i count new
  pub flat : IsFlat new

pub flattened_of : (i : Instances) (old given put new : List Node) → given ≡ old → new ≡ put → IsFlattened i given put → IsFlattened i old new
flattened_of i old given put new e d f = rw (← e, d) f
