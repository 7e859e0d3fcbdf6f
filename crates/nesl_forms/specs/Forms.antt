-- The forms of a text, as lines for a session.
use Rattle.std.specs.Prelude.{ℕ, List, [], ◌∷◌}
use Rattle.nesl_forms.specs.declared.scan.StretchKind.{StretchKind}
use Rattle.nesl_forms.specs.declared.scan.StretchKind.TheVariants.{LeftOut}
use Rattle.nesl_forms.specs.declared.text.Stretch.{Stretch}
use Rattle.nesl_forms.specs.Cuts.{cut}
use Rattle.nesl_forms.specs.Lines.{line_of}
use Rattle.nesl_forms.specs.Stretches.{bytes_of}

-- with the line of a stretch of this kind, if it is a form
abbrev pub with_line : StretchKind → List ℕ → List (List ℕ) → List (List ℕ)
with_line LeftOut line lines = lines
with_line kind line lines = line ∷ lines

-- the lines of the forms among these stretches
abbrev pub lines_among : List ℕ → List Stretch → List (List ℕ)
lines_among text [] = []
lines_among text (s ∷ ss) = with_line s.kind (line_of s.kind (bytes_of text s)) (lines_among text ss)

-- the lines of a text's forms
abbrev pub lines_of : List ℕ → List (List ℕ)
lines_of text = lines_among text (cut text)
