-- The shapes of the types at the places of a graph.
use Rattle.std.proofs.Common.{◌≡◌, ℕ, List, refl, sym, ap, ◌∙◌}
use Rattle.nesl_types_shared.specs.Term.{Term, variable}
use Rattle.nesl_types_shared.specs.Types.{type_at}
use Rattle.nesl_types_shared.specs.Shapes.{shape_type}
use Rattle.nesl_types_shared.specs.declared.shape.Shape.{Shape}
use Rattle.nesl_types_shared.specs.declared.shape.Shape.TheVariants as shape
use Rattle.nesl_unify_graph.specs.declared.node.Node.{Node}
use Rattle.nesl_unify_graph.specs.declared.node.Node.TheVariants.{Free, Same, Int, Bool as Boolean, Char, Named, SeqOf, Both, Part}
use Rattle.nesl_unify_graph.specs.declared.instances.Instances.{Instances}
use Rattle.nesl_unify_graph.specs.Instances.{parts_in, instance_type, IsPart}
use Rattle.nesl_unify_graph.specs.Graph.{node_at, node_type, target}
use Rattle.nesl_unify_graph.proofs.Tables.{fits-target}
use Rattle.nesl_unify.specs.Solves.{inner_types, HasShape, IsReading}

pub part_shape : (i : Instances) (w : ℕ → Term) (r k : ℕ) (s : Shape) → type_at (parts_in i r) k ≡ shape_type (type_at (parts_in i r)) s → IsPart i r k →
    instance_type i w r (type_at (parts_in i r) k) ≡ shape_type (λ q. instance_type i w r (type_at (parts_in i r) q)) s
part_shape i w r k shape.Int e h = ap (instance_type i w r) e
part_shape i w r k shape.Bool e h = ap (instance_type i w r) e
part_shape i w r k shape.Char e h = ap (instance_type i w r) e
part_shape i w r k (shape.Var v) e h = absurd (h.whole v e)
part_shape i w r k (shape.Named n) e h = ap (instance_type i w r) e
part_shape i w r k (shape.SeqOf p) e h = ap (instance_type i w r) e
part_shape i w r k (shape.Both p q) e h = ap (instance_type i w r) e

node_reading : (i : Instances) (g : ℕ → Term) (p : ℕ) (m : Node) → g p ≡ node_type i g (g p) m → (m ≡ Free → g p ≡ variable p) → g p ≡ node_type i g (variable p) m
node_reading i g p Free e h = h refl
node_reading i g p (Same q) e h = e
node_reading i g p Int e h = e
node_reading i g p Boolean e h = e
node_reading i g p Char e h = e
node_reading i g p (Named m) e h = e
node_reading i g p (SeqOf q) e h = e
node_reading i g p (Both q r) e h = e
node_reading i g p (Part r k) e h = e

pub shape_reading : (i : Instances) (ns : List Node) (p root : ℕ) (s : Shape) → root ≡ target ns p →
    ((w : ℕ → Term) → node_type i w (variable root) (node_at ns root) ≡ shape_type (inner_types i w (node_at ns root)) s) →
    (g : ℕ → Term) → IsReading i ns g → HasShape (g p) s
shape_reading i ns p root s e h g x =
    (inner_types i g (node_at ns root), fits-target i g ns p x.fits ∙ ap g (sym e) ∙ node_reading i g root (node_at ns root) (x.fits root) (x.free root) ∙ h g)
