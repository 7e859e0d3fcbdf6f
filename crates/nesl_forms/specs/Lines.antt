-- The line of a form, as a session takes it.
use Rattle.std.specs.Prelude.{ℕ, ◌==◌, ◌&&◌, ◌||◌, Bool, true, false, if◌then◌else◌}
use Rattle.std.specs.Prelude.{List, [], ◌∷◌, ◌++◌, reverse, codes}
use Rattle.nesl_lex.specs.Lexemes.{is_blank}
use Rattle.nesl_forms.specs.declared.scan.StretchKind.{StretchKind}
use Rattle.nesl_forms.specs.declared.scan.StretchKind.TheVariants.{Line, Unfinished}

-- only blanks come before the next line end, or before the end
abbrev pub ends_soon : List ℕ → Bool
ends_soon [] = true
ends_soon (b ∷ bs) = (b == 10) || (is_blank b && ends_soon bs)

-- the byte, or a blank in place of a line end and of a `\` that its line ends in
abbrev pub flat_byte : ℕ → List ℕ → ℕ
flat_byte b rest = if (b == 10) || ((b == 92) && ends_soon rest) then 32 else b

abbrev pub flat : List ℕ → List ℕ
flat [] = []
flat (b ∷ bs) = flat_byte b bs ∷ flat bs

-- without the blanks and `\` at the front
abbrev pub trimmed : List ℕ → List ℕ
trimmed [] = []
trimmed (b ∷ bs) = if is_blank b || (b == 92) then trimmed bs else b ∷ bs

-- the line of a form of this kind, with these bytes: without line ends, and with the `;` that is missing at the end
abbrev pub line_of : StretchKind → List ℕ → List ℕ
line_of Unfinished form = flat form ++ codes ";"
line_of Line form = reverse (trimmed (reverse (flat form)))
line_of kind form = flat form

-- anything but an LF
abbrev pub is_no_feed : ℕ → Bool
is_no_feed b = if b == 10 then false else true

-- a line that ends in `\`, which a session takes for a part of a form
abbrev pub is_part : List ℕ → Bool
is_part [] = false
is_part (b ∷ []) = b == 92
is_part (b ∷ c ∷ bs) = is_part (c ∷ bs)
