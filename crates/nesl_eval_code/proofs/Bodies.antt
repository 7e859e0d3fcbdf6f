-- The elements of sequences at a place.
use Rattle.std.proofs.Common.{◌≡◌, ℕ, refl, ◌∙◌, ap, List, [], ◌∷◌, Option, Some, None}
use Rattle.std.specs.Prelude.{slice_get, option_and_then}
use Rattle.nesl_syntax_tree.specs.Trees.{Binders, no_binders, binder}
use Rattle.nesl_values.specs.Parts.{elements}
use Rattle.nesl_eval_meaning.specs.Names.{Value, Locals, bound}
use Rattle.nesl_eval_code.specs.Frames.{frame, row}
use Rattle.nesl_eval_meaning.specs.Outcome.{bound_at, first_at}
use Rattle.nesl_eval_code.specs.Means.{bound_all, patterns}

-- a row is a frame of values, where all patterns are bound
pub record IsRow (bs : Binders) (vs : List Value) (i : ℕ) (ns ms : Locals) : Type 0 where
  pub items : List Value
  pub framed : row i vs ≡ frame items
  pub bound : bound_all (patterns bs) items ns ≡ Some ms
  pub first : first_at vs i ≡ slice_get items 0

pub row_of : (bs : Binders) (vs : List Value) (i : ℕ) (ns ms : Locals) → bound_at bs vs i ns ≡ Some ms → IsRow bs vs i ns ms
row_of no_binders [] i ns ms e = record { items = []; framed = refl; bound = e; first = refl }
row_of no_binders (v ∷ vs) i ns ms e = absurd cc
row_of (binder p a bs) [] i ns ms e = absurd cc
row_of (binder p a bs) (v ∷ vs) i ns ms e = element (λ os h. row_of bs vs i os ms h) (slice_get (elements v) i) refl e
  where
    rest : ((os : Locals) → bound_at bs vs i os ≡ Some ms → IsRow bs vs i os ms) → (x : Value) → slice_get (elements v) i ≡ Some x →
        (o : Option Locals) → bound p x ns ≡ o → option_and_then (bound_at bs vs i) o ≡ Some ms → IsRow (binder p a bs) (v ∷ vs) i ns ms
    rest ih x g None h k = absurd cc
    rest ih x g (Some os) h k =
        let r = ih os k in
        record {
          items = x ∷ r.items;
          framed = ap (λ y. y ∷ row i vs) g ∙ ap (λ y. Some x ∷ y) r.framed;
          bound = ap (option_and_then (bound_all (patterns bs) r.items)) h ∙ r.bound;
          first = g;
        }

    element : ((os : Locals) → bound_at bs vs i os ≡ Some ms → IsRow bs vs i os ms) → (o : Option Value) → slice_get (elements v) i ≡ o →
        option_and_then (λ x. option_and_then (bound_at bs vs i) (bound p x ns)) o ≡ Some ms → IsRow (binder p a bs) (v ∷ vs) i ns ms
    element ih None g h = absurd cc
    element ih (Some x) g h = rest ih x g (bound p x ns) refl h
