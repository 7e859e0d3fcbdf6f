-- The lines of tests.
use Rattle.std.specs.Prelude.{ℕ, ◌==◌, ◌||◌, ◌&&◌, Bool, true, false, not, if◌then◌else◌, decimal, codes}
use Rattle.std.specs.Prelude.{List, [], ◌∷◌, ◌++◌}
use Rattle.nesl_lex.specs.Lexemes.{is_letter, is_name_byte}
use Rattle.nesl_grade.specs.declared.line.Spot.{Spot}
use Rattle.nesl_grade.specs.declared.line.Spot.TheVariants.{Plain, Name, Text, Character}

-- where the next byte is, after a byte outside texts and characters
abbrev pub after_plain : ℕ → Spot
after_plain b =
    if is_letter b then Name else (
    if b == 34 then Text else (
    if b == 96 then Character else Plain))

-- where the next byte is
abbrev pub after : Spot → ℕ → Spot
after Plain b = after_plain b
after Name b = if is_name_byte b then Name else after_plain b
after Text b = if b == 34 then Plain else Text
after Character b = Plain

-- the next byte goes on with a name
abbrev pub goes_on : List ℕ → Bool
goes_on [] = false
goes_on (b ∷ bs) = is_name_byte b

-- a byte here is the whole name `n`
abbrev pub is_n : Spot → ℕ → List ℕ → Bool
is_n Plain b rest = ((b == 110) || (b == 78)) && not (goes_on rest)
is_n spot b rest = false

-- an expression with a number in place of the name `n`, outside texts and characters
abbrev pub with_number : Spot → List ℕ → List ℕ → List ℕ
with_number spot digits [] = []
with_number spot digits (b ∷ bs) =
    let here = is_n spot b bs in
    (if here then digits else b ∷ []) ++ with_number (if here then Plain else after spot b) digits bs

-- the line of a test at a number
abbrev pub line_at : List ℕ → ℕ → List ℕ
line_at exp n = with_number Plain (decimal n) exp ++ codes ";"

-- the line of a test
abbrev pub line_of : List ℕ → List ℕ
line_of exp = exp ++ codes ";"
