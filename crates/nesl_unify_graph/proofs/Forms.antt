-- The forms of types.
use Rattle.std.proofs.Common.{◌≡◌, ℕ, suc, ◌+◌, ◌-◌, ◌<◌, ◌≤◌, List, length, refl, ap, subst, ◌∙◌, arith}
use Rattle.nesl_types_shared.specs.Term.{Term, variable}
use Rattle.nesl_types_shared.specs.Numbering.{IsBelow}
use Rattle.nesl_types_shared.specs.Shapes.{shape_type, IsShapeBelow}
use Rattle.nesl_types_shared.specs.Types.{type_at}
use Rattle.nesl_types_shared.specs.declared.shape.Shape.{Shape}
use Rattle.nesl_types_shared.specs.declared.shape.Shape.TheVariants as shape
use Rattle.nesl_unify_graph.specs.declared.node.Node.{Node}
use Rattle.nesl_unify_graph.specs.declared.node.Node.TheVariants as node
use Rattle.nesl_unify_graph.specs.declared.instances.Instances.{Instances}
use Rattle.nesl_unify_graph.specs.declared.form.Item.{Item}
use Rattle.nesl_unify_graph.specs.declared.form.Item.TheVariants.{At}
use Rattle.nesl_unify_graph.specs.declared.form.Form.{Form}
use Rattle.nesl_unify_graph.specs.Instances.{parts_in, base_in, instance_type, IsPart}
use Rattle.nesl_unify_graph.specs.Graph.{node_at, node_type, IsRoot, IsFlat, target, link_or}
use Rattle.nesl_unify_graph.specs.Readings.{unrolled}
use Rattle.nesl_unify_graph.specs.Tables.{IsPlaced}
use Rattle.nesl_unify_graph.specs.Forms.{item_type, form_type, shape_form, HasPart, AreItems, IsFormAt, IsForm, IsTableOf}

-- the form of a shape other than a variable
pub form_of_shape : (i : Instances) (w : ℕ → Term) (r k : ℕ) (s : Shape) →
    type_at (parts_in i r) k ≡ shape_type (type_at (parts_in i r)) s → IsPart i r k →
    instance_type i w r (type_at (parts_in i r) k) ≡ form_type i w (shape_form r s)
form_of_shape i w r k shape.Int e h = ap (instance_type i w r) e
form_of_shape i w r k shape.Bool e h = ap (instance_type i w r) e
form_of_shape i w r k shape.Char e h = ap (instance_type i w r) e
form_of_shape i w r k (shape.Var v) e h = absurd (h.whole v e)
form_of_shape i w r k (shape.Named n) e h = ap (instance_type i w r) e
form_of_shape i w r k (shape.SeqOf p) e h = ap (instance_type i w r) e
form_of_shape i w r k (shape.Both p q) e h = ap (instance_type i w r) e

pub items_of_shape : (i : Instances) (n r k : ℕ) (s : Shape) →
    type_at (parts_in i r) k ≡ shape_type (type_at (parts_in i r)) s → IsShapeBelow k s → IsPart i r k →
    AreItems i n (shape_form r s)
items_of_shape i n r k shape.Int e b h = tt
items_of_shape i n r k shape.Bool e b h = tt
items_of_shape i n r k shape.Char e b h = tt
items_of_shape i n r k (shape.Var v) e b h = tt
items_of_shape i n r k (shape.Named m) e b h = tt
items_of_shape i n r k (shape.SeqOf p) e b h = record {
  made = h.made;
  within = let a = h.within in omega arith;
  below = subst (IsBelow (length i.fresh.items - base_in i r)) e h.below;
}
items_of_shape i n r k (shape.Both p q) e b h =
    let both = subst (IsBelow (length i.fresh.items - base_in i r)) e h.below in
    let a = h.within in
    (record { made = h.made; within = omega arith; below = both.0 }, record { made = h.made; within = omega arith; below = both.1 })

-- the place of a variable
pub variable_place : (i : Instances) (r k v : ℕ) → type_at (parts_in i r) k ≡ variable v → HasPart i r k → base_in i r + v < length i.fresh.items
variable_place i r k v e h =
    let b : v < length i.fresh.items - base_in i r = subst (IsBelow (length i.fresh.items - base_in i r)) e h.below in
    omega arith

-- a link is one step
pub link_step : (i : Instances) (ns : List Node) (far : ℕ → Term) (n p : ℕ) (d : Node) → node_at ns p ≡ d →
    (m : ℕ) × ((n ≤ m) × (unrolled i ns far (suc (suc n)) p ≡ unrolled i ns far (suc m) (link_or p d)))
link_step i ns far n p node.Free e = (suc n, (omega arith, refl))
link_step i ns far n p (node.Same q) e = (n, (omega arith, ap (node_type i (unrolled i ns far (suc n)) (variable p)) e))
link_step i ns far n p node.Int e = (suc n, (omega arith, refl))
link_step i ns far n p node.Bool e = (suc n, (omega arith, refl))
link_step i ns far n p node.Char e = (suc n, (omega arith, refl))
link_step i ns far n p (node.Named m) e = (suc n, (omega arith, refl))
link_step i ns far n p (node.SeqOf q) e = (suc n, (omega arith, refl))
link_step i ns far n p (node.Both q r) e = (suc n, (omega arith, refl))
link_step i ns far n p (node.Part r k) e = (suc n, (omega arith, refl))

-- the type at a place has the form of the one at the place to which it is linked
pub form_at : (i : Instances) (ns : List Node) (p : ℕ) (f : Form) → IsFormAt i ns (target ns p) f → IsForm i ns (At p) f
form_at i ns p f h = record {
  reads = λ far n.
      let s = link_step i ns far n p (node_at ns p) refl in
      (s.0, (s.1.0, s.1.1 ∙ h (unrolled i ns far s.0)));
}

-- the same, where the place has no link
pub form_at_root : (i : Instances) (ns : List Node) (p : ℕ) (f : Form) → IsFormAt i ns p f → IsForm i ns (At p) f
form_at_root i ns p f h = record { reads = λ far n. (suc n, (omega arith, h (unrolled i ns far (suc n)))) }

pub form_of_same : (i : Instances) (ns : List Node) (x y : Item) (f : Form) →
    ((w : ℕ → Term) → item_type i w x ≡ item_type i w y) → IsForm i ns y f → IsForm i ns x f
form_of_same i ns x y f e h = record {
  reads = λ far n.
      let s = h.reads far n in
      (s.0, (s.1.0, e (unrolled i ns far (suc (suc n))) ∙ s.1.1));
}

pub form_of_made : (i : Instances) (ns : List Node) (x : Item) (f : Form) → ((w : ℕ → Term) → item_type i w x ≡ form_type i w f) → IsForm i ns x f
form_of_made i ns x f h = record { reads = λ far n. (suc (suc n), (omega arith, h (unrolled i ns far (suc (suc n))))) }

-- a place to which a place is linked
target_of : (i : Instances) (count n p : ℕ) (d : Node) → IsPlaced i count n p d → p < n → link_or p d < n
target_of i count n p node.Free h l = l
target_of i count n p (node.Same q) h l = omega arith
target_of i count n p node.Int h l = l
target_of i count n p node.Bool h l = l
target_of i count n p node.Char h l = l
target_of i count n p (node.Named m) h l = l
target_of i count n p (node.SeqOf q) h l = l
target_of i count n p (node.Both q r) h l = l
target_of i count n p (node.Part r k) h l = l

pub target_within : (i : Instances) (ns : List Node) (p : ℕ) → IsTableOf i ns → p < length ns → target ns p < length ns
target_within i ns p t l = target_of i t.0 (length ns) p (node_at ns p) (t.1 p l) l

pub root_of_target : (ns : List Node) (p : ℕ) → IsFlat ns → IsRoot (node_at ns (target ns p))
root_of_target ns p h = h p
