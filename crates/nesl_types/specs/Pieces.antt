-- Pieces of a text that are still to be written.
use Rattle.std.specs.Prelude.{◌≡◌, ℕ, ◌+◌, ◌*◌, ◌<◌, Bool, All, List, [], ◌∷◌, ◌++◌}
use Rattle.nesl_types_shared.specs.Term.{Term, nodes}
use Rattle.nesl_types.specs.Texts.{type_text}
use Rattle.nesl_types_shared.specs.declared.shape.Shape.{Shape}
use Rattle.nesl_types_shared.specs.Shapes.{shape_type, IsShapeBelow}
use Rattle.nesl_types.specs.declared.texts.Piece.{Piece}
use Rattle.nesl_types.specs.declared.texts.Piece.TheVariants.{Byte, TypeAt}

-- the text of a piece, where `f` gives the types at the places
abbrev pub piece_text : (ℕ → List ℕ) → (ℕ → Term) → Piece → List ℕ
piece_text names f (Byte b) = b ∷ []
piece_text names f (TypeAt p brackets) = type_text names brackets (f p)

-- the text of a stack, whose last piece comes first
abbrev pub rest_text : (ℕ → List ℕ) → (ℕ → Term) → List Piece → List ℕ
rest_text names f [] = []
rest_text names f (p ∷ ps) = rest_text names f ps ++ piece_text names f p

-- more than the pieces that it takes to write a piece
abbrev pub piece_size : (ℕ → Term) → Piece → ℕ
piece_size f (Byte b) = 1
piece_size f (TypeAt p brackets) = 4 * nodes (f p)

abbrev pub rest_size : (ℕ → Term) → List Piece → ℕ
rest_size f [] = 0
rest_size f (p ∷ ps) = rest_size f ps + piece_size f p

-- its type is at a place below n
abbrev pub IsPieceBelow : ℕ → Piece → Type 0
IsPieceBelow n (Byte b) = Unit {0}
IsPieceBelow n (TypeAt p brackets) = p < n

-- the text of a type was written as far as `next`, and its rest left on the stack
pub record IsBegun (names : ℕ → List ℕ) (brackets : Bool) (shape : Shape) (out next : List ℕ) (ps qs : List Piece) :
    Type 0 where
  pub text : (f : ℕ → Term) →
      next ++ rest_text names f qs ≡ out ++ (type_text names brackets (shape_type f shape) ++ rest_text names f ps)
  pub below : (n : ℕ) → IsShapeBelow n shape → All (IsPieceBelow n) ps → All (IsPieceBelow n) qs
  pub less : (f : ℕ → Term) → rest_size f qs < rest_size f ps + 4 * nodes (shape_type f shape)

-- a piece was written as far as `next`, and its rest left on the stack; `f` gives the types at the places below n
pub record IsWritten (names : ℕ → List ℕ) (f : ℕ → Term) (n : ℕ) (p : Piece) (out next : List ℕ) (ps qs : List Piece) :
    Type 0 where
  pub text : next ++ rest_text names f qs ≡ out ++ (piece_text names f p ++ rest_text names f ps)
  pub below : All (IsPieceBelow n) ps → All (IsPieceBelow n) qs
  pub less : rest_size f qs < rest_size f ps + piece_size f p
