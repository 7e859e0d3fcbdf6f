-- What the stretches of a text are.
use Rattle.std.specs.Prelude.{◌≡◌, ◌<◌, ◌≤◌, ◌||◌, ◌==◌, ℕ, Bool, true, List, [], ◌∷◌, ◌++◌, slice_range}
use Rattle.nesl_lex.specs.Lexemes.{AllBytes, is_blank, is_comment_byte}
use Rattle.nesl_forms.specs.declared.scan.StretchKind.{StretchKind}
use Rattle.nesl_forms.specs.declared.scan.StretchKind.TheVariants.{LeftOut, Whole}
use Rattle.nesl_forms.specs.declared.text.Stretch.{Stretch}

-- stretches from the first place to the second, one after another, each with a byte at least
abbrev pub Follow : ℕ → List Stretch → ℕ → Type 0
Follow i [] j = i ≡ j
Follow i (s ∷ ss) j = (s.start ≡ i) × (i < s.end) × Follow s.end ss j

-- the stretch lies within this number of bytes
pub record LiesIn (n : ℕ) (s : Stretch) : Type 0 where
  pub before : s.start ≤ s.end
  pub within : s.end ≤ n

-- the bytes of a stretch
abbrev pub bytes_of : List ℕ → Stretch → List ℕ
bytes_of text s = slice_range text s.start s.end

-- a blank, a line end or a `;`
abbrev pub is_between : ℕ → Bool
is_between b = is_blank b || (b == 10) || (b == 59)

-- blanks, line ends, stray `;` and whole comments
pub data IsLeftOut : List ℕ → Type 0 where
  nothing : IsLeftOut []
  blank : (b : ℕ) (bs : List ℕ) → is_between b ≡ true → IsLeftOut bs → IsLeftOut (b ∷ bs)
  comment : (inside bs : List ℕ) → AllBytes is_comment_byte inside → IsLeftOut bs → IsLeftOut (37 ∷ inside ++ 37 ∷ bs)

-- what bytes are that are cut as a stretch of this kind: nothing of a form is left out, and a whole form ends in `;`
abbrev pub IsOfKind : StretchKind → List ℕ → Type 0
IsOfKind LeftOut bytes = IsLeftOut bytes
IsOfKind Whole bytes = (front : List ℕ) × (bytes ≡ front ++ 59 ∷ [])
IsOfKind kind bytes = Unit {0}

abbrev pub IsRight : List ℕ → Stretch → Type 0
IsRight text s = IsOfKind s.kind (bytes_of text s)
