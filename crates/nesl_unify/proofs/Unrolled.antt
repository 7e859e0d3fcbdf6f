-- Types that are read from a graph.
use Rattle.std.proofs.Common.{◌≡◌, ℕ, zero, suc, ◌-◌, ◌*◌, ◌<◌, ◌≤◌, inl, inr, List, length, refl, sym, ap, ◌∙◌, arith}
use Rattle.std.proofs.lemmas.Bool.{cases_lt}
use Rattle.std.proofs.lemmas.List.{get_or_past}
use Rattle.nesl_types_shared.specs.Term.{Term, int, bool, char, variable, seq_of, pair_of, named, nodes}
use Rattle.nesl_types_shared.specs.Numbering.{IsBelow}
use Rattle.nesl_types_shared.specs.Substitution.{substitute}
use Rattle.nesl_types_shared.specs.Types.{type_at}
use Rattle.nesl_types_shared.proofs.Substitutions.{substitute-same, substitute-substitute}
use Rattle.nesl_unify_graph.specs.declared.node.Node.{Node}
use Rattle.nesl_unify_graph.specs.declared.node.Node.TheVariants.{Free, Same, Int, Bool as Boolean, Char, Named, SeqOf, Both, Part}
use Rattle.nesl_unify_graph.specs.declared.instances.Instances.{Instances}
use Rattle.nesl_unify_graph.specs.Graph.{node_at, node_type, Fits}
use Rattle.nesl_unify_graph.specs.Instances.{parts_in, base_in, place_in, AreBelow}
use Rattle.nesl_unify_graph.specs.Readings.{unrolled, AreReadWithin}
use Rattle.nesl_unify_graph.specs.Tables.{IsPlaced, IsTable}
use Rattle.nesl_unify.proofs.Facts.{place_below, substitute_below}

-- what fits the types at all places fits what is read, with the types of the variables for these
node_general : (i : Instances) (w f : ℕ → Term) (p : ℕ) (m : Node) → ((q : ℕ) → w q ≡ substitute w (f q)) → w p ≡ node_type i w (w p) m → w p ≡ substitute w (node_type i f (variable p) m)
node_general i w f p Free h e = refl
node_general i w f p (Same q) h e = e ∙ h q
node_general i w f p Int h e = e
node_general i w f p Boolean h e = e
node_general i w f p Char h e = e
node_general i w f p (Named k) h e = e
node_general i w f p (SeqOf q) h e = e ∙ ap seq_of (h q)
node_general i w f p (Both q r) h e = e ∙ ap (λ (t : Term). pair_of t (w r)) (h q) ∙ ap (pair_of (substitute w (f q))) (h r)
node_general i w f p (Part r k) h e =
    let t = type_at (parts_in i r) k in
    e ∙ substitute-same (λ v. w (place_in i r v)) (λ v. substitute w (f (place_in i r v))) t (λ v. h (place_in i r v))
    ∙ sym (substitute-substitute w (λ v. f (place_in i r v)) t)

pub unrolled_general : (i : Instances) (ns : List Node) (w : ℕ → Term) → Fits i w ns → (n p : ℕ) → w p ≡ substitute w (unrolled i ns variable n p)
unrolled_general i ns w f zero p = refl
unrolled_general i ns w f (suc n) p = node_general i w (unrolled i ns variable n) p (node_at ns p) (unrolled_general i ns w f n) (f p)

-- a node says the same of a type that it is
node_fits : (i : Instances) (w : ℕ → Term) (x t : Term) (m : Node) → x ≡ node_type i w t m → x ≡ node_type i w x m
node_fits i w x t Free e = refl
node_fits i w x t (Same q) e = e
node_fits i w x t Int e = e
node_fits i w x t Boolean e = e
node_fits i w x t Char e = e
node_fits i w x t (Named k) e = e
node_fits i w x t (SeqOf q) e = e
node_fits i w x t (Both q r) e = e
node_fits i w x t (Part r k) e = e

-- the variables of a type with types in place of its own
pub below_substituted : (m n : ℕ) (f : ℕ → Term) (t : Term) → IsBelow m t → ((v : ℕ) → v < m → IsBelow n (f v)) → IsBelow n (substitute f t)
below_substituted m n f int b h = tt
below_substituted m n f bool b h = tt
below_substituted m n f char b h = tt
below_substituted m n f (variable v) b h = h v b
below_substituted m n f (seq_of t) b h = below_substituted m n f t b h
below_substituted m n f (pair_of t u) b h = (below_substituted m n f t b.0 h, below_substituted m n f u b.1 h)
below_substituted m n f (named k) b h = tt

node_below : (i : Instances) (count n p : ℕ) (f : ℕ → Term) (m : Node) → AreBelow n i → p < n → IsPlaced i count n p m → ((q : ℕ) → q < n → IsBelow count (f q)) → IsBelow count (node_type i f (variable p) m)
node_below i count n p f Free a l k h = k
node_below i count n p f (Same q) a l k h = h q (omega arith)
node_below i count n p f Int a l k h = tt
node_below i count n p f Boolean a l k h = tt
node_below i count n p f Char a l k h = tt
node_below i count n p f (Named j) a l k h = tt
node_below i count n p f (SeqOf q) a l k h = h q k
node_below i count n p f (Both q r) a l k h = (h q k.0, h r k.1)
node_below i count n p f (Part r j) a l k h =
    below_substituted (length i.fresh.items - base_in i r) count (λ v. f (place_in i r v)) (type_at (parts_in i r) j) k.below (λ v b. h (place_in i r v) (place_below i n r v a b))

-- only places that are free are left as variables
pub unrolled_below : (i : Instances) (count : ℕ) (ns : List Node) → AreBelow (length ns) i → IsTable i count ns → (n p : ℕ) → p < length ns → IsBelow count (unrolled i ns (λ q. int) n p)
unrolled_below i count ns a t zero p l = tt
unrolled_below i count ns a t (suc n) p l =
    node_below i count (length ns) p (unrolled i ns (λ q. int) n) (node_at ns p) a l (t p l) (λ q b. unrolled_below i count ns a t n q b)

-- types that are read whole within n steps
module _ (i : Instances) (ns : List Node) (most n : ℕ) (read : AreReadWithin i ns most) (far_off : 2 * most ≤ n) (some : 0 < n) where
  past_end : (far : ℕ → Term) (m p : ℕ) → length ns ≤ p → 0 < m → unrolled i ns far m p ≡ variable p
  past_end far zero p g z = absurd (omega arith)
  past_end far (suc m) p g z = ap (node_type i (unrolled i ns far m) (variable p)) (get_or_past ns p Free g)

  -- what is read doesn't depend on what is beyond
  pub read_same : (far : ℕ → Term) (m p : ℕ) → n ≤ m → unrolled i ns far m p ≡ unrolled i ns (λ q. int) n p
  read_same far m p l = elim (cases_lt p (length ns)) [
    | inl h ↦
        let r = read p h in
        let a : 2 * nodes r.0 ≤ n = omega (arith, r.1.1) in
        let b : 2 * nodes r.0 ≤ m = omega arith in
        r.1.0 far m b ∙ sym (r.1.0 (λ q. int) n a)
    | inr g ↦ past_end far m p g (omega arith) ∙ sym (past_end (λ q. int) n p g some)
  ]

  -- what is read fits the graph
  pub read_fits : Fits i (unrolled i ns (λ q. int) n) ns
  read_fits p =
      let e : unrolled i ns (λ q. int) n p ≡ node_type i (unrolled i ns (λ q. int) n) (variable p) (node_at ns p) = sym (read_same (λ q. int) (suc n) p (omega arith)) in
      node_fits i (unrolled i ns (λ q. int) n) (unrolled i ns (λ q. int) n p) (variable p) (node_at ns p) e

  -- and is as general as all that does
  pub read_general : (w : ℕ → Term) → Fits i w ns → (p : ℕ) → w p ≡ substitute w (unrolled i ns (λ q. int) n p)
  read_general w f p = unrolled_general i ns w f n p ∙ ap (substitute w) (read_same variable n p (omega arith))

  -- only the types of the first `count` places matter
  pub read_general_below : (count : ℕ) (w s : ℕ → Term) → AreBelow (length ns) i → IsTable i count ns → Fits i w ns → ((v : ℕ) → v < count → w v ≡ s v) → (p : ℕ) → p < length ns →
      w p ≡ substitute s (unrolled i ns (λ q. int) n p)
  read_general_below count w s a t f e p l =
      read_general w f p ∙ substitute_below count w s (unrolled i ns (λ q. int) n p) (unrolled_below i count ns a t n p l) e

  -- a free place is its own variable
  pub read_free : (p : ℕ) → node_at ns p ≡ Free → unrolled i ns (λ q. int) n p ≡ variable p
  read_free p h = sym (read_same (λ q. int) (suc n) p (omega arith)) ∙ ap (node_type i (unrolled i ns (λ q. int) n) (variable p)) h
