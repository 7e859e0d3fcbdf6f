-- The lines of the forms among stretches.
use Rattle.std.proofs.Common.{◌≡◌, ℕ, ◌+◌, ◌<◌, ◌≤◌, List, [], ◌∷◌, ◌++◌, length, take, get_or, refl, ap, ◌∙◌, arith}
use Rattle.std.proofs.lemmas.List.{take_more}
use Rattle.std.specs.Prelude.{All}
use Rattle.std.proofs.lemmas.List.Elements.{All-cons, All-nil}
use Rattle.nesl_forms.specs.declared.scan.StretchKind.{StretchKind}
use Rattle.nesl_forms.specs.declared.scan.StretchKind.TheVariants as kind
use Rattle.nesl_forms.specs.declared.text.Stretch.{Stretch}
use Rattle.nesl_forms.specs.Forms.{lines_among, with_line}
use Rattle.nesl_forms.specs.Stretches.{Follow, LiesIn, bytes_of}
use Rattle.nesl_forms.specs.Lines.{line_of}
use Rattle.nesl_forms.proofs.Tiles.{follow_le}

with_line_append : (k : StretchKind) (line : List ℕ) (xs ys : List (List ℕ)) → with_line k line (xs ++ ys) ≡ with_line k line xs ++ ys
with_line_append kind.LeftOut line xs ys = refl
with_line_append kind.Whole line xs ys = refl
with_line_append kind.Line line xs ys = refl
with_line_append kind.Unfinished line xs ys = refl

pub lines_append : (text : List ℕ) (ss ts : List Stretch) → lines_among text (ss ++ ts) ≡ lines_among text ss ++ lines_among text ts
lines_append text [] ts = refl
lines_append text (s ∷ ss) ts =
    ap (λ (ls : List (List ℕ)). with_line s.kind (line_of s.kind (bytes_of text s)) ls) (lines_append text ss ts)
    ∙ with_line_append s.kind (line_of s.kind (bytes_of text s)) (lines_among text ss) (lines_among text ts)

-- with the next stretch
pub lines_next : (text : List ℕ) (ss : List Stretch) (i : ℕ) (d : Stretch) → i < length ss
    → lines_among text (take (i + 1) ss) ≡ lines_among text (take i ss) ++ lines_among text (get_or ss i d ∷ [])
lines_next text ss i d h =
    ap (λ (ts : List Stretch). lines_among text ts) (take_more ss i d h) ∙ lines_append text (take i ss) (get_or ss i d ∷ [])

pub follow_lies : (i : ℕ) (ss : List Stretch) (j : ℕ) → Follow i ss j → All (LiesIn j) ss
follow_lies i [] j h = All-nil (LiesIn j)
follow_lies i (s ∷ ss) j h =
    let start : s.start ≡ i = h.0 in
    let more : i < s.end = h.1 in
    All-cons (LiesIn j) s ss (record { before = omega arith; within = follow_le s.end ss j h.2 }) (follow_lies s.end ss j h.2)
