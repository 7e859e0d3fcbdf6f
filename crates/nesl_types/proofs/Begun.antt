-- The text of a type, written piece by piece.
use Rattle.std.proofs.Common.{◌≡◌, ℕ, ◌+◌, ◌*◌, ◌<◌, Bool, true, false, cond, List, [], ◌∷◌, ◌++◌, All, Some, refl, sym, ap, subst, ◌∙◌, append_assoc, append-nil, arith}
use Rattle.std.proofs.lemmas.List.Elements.{All-push, All-pop}
use Rattle.nesl_types_shared.specs.Term.{Term, nodes}
use Rattle.nesl_types.specs.Texts.{type_text}
use Rattle.nesl_types_shared.specs.declared.shape.Shape.{Shape}
use Rattle.nesl_types_shared.specs.declared.shape.Shape.TheVariants.{SeqOf, Both}
use Rattle.nesl_types.specs.declared.texts.Piece.{Piece}
use Rattle.nesl_types.specs.declared.texts.Piece.TheVariants.{Byte, TypeAt}
use Rattle.nesl_types_shared.specs.Shapes.{shape_type, IsShapeBelow}
use Rattle.nesl_types_shared.proofs.Made.{below_wider}
use Rattle.nesl_types_shared.proofs.Nodes.{nodes_positive}
use Rattle.nesl_types.specs.Pieces.{piece_text, rest_text, piece_size, rest_size, IsPieceBelow, IsBegun, IsWritten}

pub rest_text-push : (names : ℕ → List ℕ) (f : ℕ → Term) (ps : List Piece) (p : Piece) → rest_text names f (ps ++ p ∷ []) ≡ piece_text names f p ++ rest_text names f ps
rest_text-push names f [] p = simp append-nil
rest_text-push names f (q ∷ ps) p = ap (λ t. t ++ piece_text names f q) (rest_text-push names f ps p) ∙ append_assoc (piece_text names f p) (rest_text names f ps) (piece_text names f q)

pub rest_size-push : (f : ℕ → Term) (ps : List Piece) (p : Piece) → rest_size f (ps ++ p ∷ []) ≡ rest_size f ps + piece_size f p
rest_size-push f [] p = refl
rest_size-push f (q ∷ ps) p = omega (arith, rest_size-push f ps p)

-- a type without parts
pub leaf_begun : (names : ℕ → List ℕ) (brackets : Bool) (shape : Shape) (text out next : List ℕ) (ps : List Piece) → ((f : ℕ → Term) → type_text names brackets (shape_type f shape) ≡ text) → next ≡ out ++ text → IsBegun names brackets shape out next ps ps
leaf_begun names brackets shape text out next ps same n = record {
  text = λ f. ap (λ x. x ++ rest_text names f ps) (n ∙ ap (λ x. out ++ x) (sym (same f))) ∙ append_assoc out (type_text names brackets (shape_type f shape)) (rest_text names f ps);
  below = λ n b a. a;
  less = λ f. omega (arith, nodes_positive (shape_type f shape));
}

-- sequences
pub seq_begun : (names : ℕ → List ℕ) (brackets : Bool) (item : ℕ) (out next : List ℕ) (ps qs : List Piece) → next ≡ out ++ 91 ∷ [] → qs ≡ (ps ++ Byte 93 ∷ []) ++ TypeAt item true ∷ [] → IsBegun names brackets (SeqOf item) out next ps qs
seq_begun names brackets item out next ps qs n q =
    let mid = ps ++ Byte 93 ∷ [] in
    record {
      text = λ f. rw (n, q, rest_text-push names f mid (TypeAt item true), rest_text-push names f ps (Byte 93)) (simp append_assoc);
      below = λ n b a. subst (All (IsPieceBelow n)) (sym q) (All-push (IsPieceBelow n) mid (TypeAt item true) (All-push (IsPieceBelow n) ps (Byte 93) a tt) b);
      less = λ f. rw (q, rest_size-push f mid (TypeAt item true), rest_size-push f ps (Byte 93)) (omega arith);
    }

-- what is left of a pair, above the rest of the stack
abbrev pub pair_pushed : ℕ → ℕ → List Piece → List Piece
pair_pushed first second ps = (((ps ++ TypeAt second false ∷ []) ++ Byte 32 ∷ []) ++ Byte 44 ∷ []) ++ TypeAt first true ∷ []

pushed_text : (names : ℕ → List ℕ) (f : ℕ → Term) (first second : ℕ) (ps : List Piece) →
    rest_text names f (pair_pushed first second ps) ≡ type_text names true (f first) ++ 44 ∷ (32 ∷ (type_text names false (f second) ++ rest_text names f ps))
pushed_text names f first second ps =
    let a = ps ++ TypeAt second false ∷ [] in
    let b = a ++ Byte 32 ∷ [] in
    let d = b ++ Byte 44 ∷ [] in
    rw (rest_text-push names f d (TypeAt first true), rest_text-push names f b (Byte 44), rest_text-push names f a (Byte 32), rest_text-push names f ps (TypeAt second false)) refl

pushed_size : (f : ℕ → Term) (first second : ℕ) (ps : List Piece) → rest_size f (pair_pushed first second ps) ≡ rest_size f ps + 4 * nodes (f first) + 4 * nodes (f second) + 2
pushed_size f first second ps =
    let a = ps ++ TypeAt second false ∷ [] in
    let b = a ++ Byte 32 ∷ [] in
    let d = b ++ Byte 44 ∷ [] in
    omega (arith, rest_size-push f d (TypeAt first true), rest_size-push f b (Byte 44), rest_size-push f a (Byte 32), rest_size-push f ps (TypeAt second false))

pushed_below : (n first second : ℕ) (ps : List Piece) → first < n → second < n → All (IsPieceBelow n) ps → All (IsPieceBelow n) (pair_pushed first second ps)
pushed_below n first second ps l m h =
    let a = ps ++ TypeAt second false ∷ [] in
    let b = a ++ Byte 32 ∷ [] in
    let d = b ++ Byte 44 ∷ [] in
    let p = IsPieceBelow n in
    All-push p d (TypeAt first true) (All-push p b (Byte 44) (All-push p a (Byte 32) (All-push p ps (TypeAt second false) h m) tt) tt) l

pub pair_begun : (names : ℕ → List ℕ) (brackets : Bool) (first second : ℕ) (out next : List ℕ) (ps qs : List Piece) →
    next ≡ out ++ cond brackets (40 ∷ []) [] → qs ≡ pair_pushed first second (ps ++ cond brackets (Byte 41 ∷ []) []) → IsBegun names brackets (Both first second) out next ps qs
pair_begun names true first second out next ps qs n q =
    let mid = ps ++ Byte 41 ∷ [] in
    record {
      text = λ f. rw (n, q, pushed_text names f first second mid, rest_text-push names f ps (Byte 41)) (simp append_assoc);
      below = λ n b a. subst (All (IsPieceBelow n)) (sym q) (pushed_below n first second mid b.0 b.1 (All-push (IsPieceBelow n) ps (Byte 41) a tt));
      less = λ f. rw (q, pushed_size f first second mid, rest_size-push f ps (Byte 41)) (omega arith);
    }
pair_begun names false first second out next ps qs n q =
    let e : qs ≡ pair_pushed first second ps = q ∙ ap (pair_pushed first second) (append-nil ps) in
    record {
      text = λ f. rw (n, e, pushed_text names f first second ps) (simp (append_assoc, append-nil));
      below = λ n b a. subst (All (IsPieceBelow n)) (sym e) (pushed_below n first second ps b.0 b.1 a);
      less = λ f. rw (e, pushed_size f first second ps) (omega arith);
    }

-- a type that is begun
pub type_written : (names : ℕ → List ℕ) (f : ℕ → Term) (n p : ℕ) (brackets : Bool) (shape : Shape) (out next : List ℕ) (ps qs : List Piece) → p < n → IsShapeBelow p shape → f p ≡ shape_type f shape → IsBegun names brackets shape out next ps qs →
    IsWritten names f n (TypeAt p brackets) out next ps qs
type_written names f n p brackets shape out next ps qs l s h b = record {
  text = b.text f ∙ ap (λ t. out ++ (type_text names brackets t ++ rest_text names f ps)) (sym h);
  below = λ a. b.below n (below_wider p n shape (omega arith) s) a;
  less = let d = ap nodes h in omega (arith, b.less f);
}

-- the stack without its last piece, which was written
pub rest_after : (names : ℕ → List ℕ) (f : ℕ → Term) (n : ℕ) (p : Piece) (out next text : List ℕ) (rs ps qs : List Piece) → rs ≡ ps ++ p ∷ [] → IsWritten names f n p out next ps qs → out ++ rest_text names f rs ≡ text → next ++ rest_text names f qs ≡ text
rest_after names f n p out next text rs ps qs r w e = w.text ∙ ap (λ t. out ++ t) (sym (ap (rest_text names f) r ∙ rest_text-push names f ps p)) ∙ e

pub below_after : (names : ℕ → List ℕ) (f : ℕ → Term) (n : ℕ) (p : Piece) (out next : List ℕ) (rs ps qs : List Piece) → rs ≡ ps ++ p ∷ [] → IsWritten names f n p out next ps qs → All (IsPieceBelow n) rs → All (IsPieceBelow n) qs
below_after names f n p out next rs ps qs r w a = w.below (All-pop (IsPieceBelow n) rs ps (Some p) r a).0

pub less_after : (names : ℕ → List ℕ) (f : ℕ → Term) (n : ℕ) (p : Piece) (out next : List ℕ) (rs ps qs : List Piece) → rs ≡ ps ++ p ∷ [] → IsWritten names f n p out next ps qs → rest_size f qs < rest_size f rs
less_after names f n p out next rs ps qs r w = let e = ap (rest_size f) r in omega (arith, rest_size-push f ps p, w.less)
