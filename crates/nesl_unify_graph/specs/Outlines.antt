-- The nodes of a type in a list.
use Rattle.std.specs.Prelude.{◌≡◌, ◌<◌, ◌+◌, ℕ, List, length, slice_index}
use Rattle.nesl_types_shared.specs.Term.{Term}
use Rattle.nesl_types_shared.specs.declared.shape.Shape.{Shape}
use Rattle.nesl_types_shared.specs.declared.shape.Shape.TheVariants as shape
use Rattle.nesl_types_shared.specs.Shapes.{shape_type, shape_at}
use Rattle.nesl_unify_graph.specs.declared.node.Node.{Node}
use Rattle.nesl_unify_graph.specs.declared.instances.Instances.{Instances}
use Rattle.nesl_unify_graph.specs.declared.form.Form.{Form}
use Rattle.nesl_unify_graph.specs.declared.form.Form.TheVariants.{Free, Int, Bool, Char, Named, SeqOf, Both}
use Rattle.nesl_unify_graph.specs.Readings.{Reads}

-- the shape of a form whose parts are at the places from n on
abbrev pub form_shape : ℕ → Form → Shape
form_shape n (Free p) = shape.Var p
form_shape n Int = shape.Int
form_shape n Bool = shape.Bool
form_shape n Char = shape.Char
form_shape n (Named m) = shape.Named m
form_shape n (SeqOf x) = shape.SeqOf n
form_shape n (Both x y) = shape.Both n (n + 1)

-- a shape whose parts are elsewhere
abbrev pub placed_shape : List ℕ → Shape → Shape
placed_shape ps shape.Int = shape.Int
placed_shape ps shape.Bool = shape.Bool
placed_shape ps shape.Char = shape.Char
placed_shape ps (shape.Var v) = shape.Var v
placed_shape ps (shape.Named m) = shape.Named m
placed_shape ps (shape.SeqOf c) = shape.SeqOf (slice_index ps c)
placed_shape ps (shape.Both c d) = shape.Both (slice_index ps c) (slice_index ps d)

-- the parts of the shape at place k are after it, at places below n
abbrev pub IsShapeAfter : ℕ → ℕ → Shape → Type 0
IsShapeAfter k n shape.Int = Unit {0}
IsShapeAfter k n shape.Bool = Unit {0}
IsShapeAfter k n shape.Char = Unit {0}
IsShapeAfter k n (shape.Var v) = Unit {0}
IsShapeAfter k n (shape.Named m) = Unit {0}
IsShapeAfter k n (shape.SeqOf c) = (k < c) × (c < n)
IsShapeAfter k n (shape.Both c d) = (k < c) × (c < n) × (k < d) × (d < n)

-- shapes, each before its parts
pub record IsOutline (shapes : List Shape) : Type 0 where
  pub some : 0 < length shapes
  pub made : (k : ℕ) → k < length shapes → IsShapeAfter k (length shapes) (shape_at shapes k)

-- each shape is that of the type which `g` gives for its place
abbrev pub FitsOutline : (ℕ → Term) → List Shape → Type 0
FitsOutline g shapes = (k : ℕ) → k < length shapes → g k ≡ shape_type g (shape_at shapes k)

-- the shapes are those of the type at place p
pub record IsOutlineOf (i : Instances) (ns : List Node) (p : ℕ) (shapes : List Shape) : Type 0 where
  pub outline : IsOutline shapes
  pub reads : (g : ℕ → Term) → FitsOutline g shapes → Reads i ns p (g 0)
