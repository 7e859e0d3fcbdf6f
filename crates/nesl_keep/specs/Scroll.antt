-- What a file of lines stands for.
use Rattle.std.specs.Prelude.{◌≡◌, ◌≢◌, ◌⊎◌, ℕ, List, [], ◌∷◌, ◌++◌, Option, Some, None, length, if◌then◌else◌, ◌==◌}
use Rattle.std.specs.List.{AllByRecursion}
use Rattle.nesl_keep.specs.Device.{Only}
use Rattle.nesl_keep.specs.declared.scroll.Scroll.{Scroll}

-- An open gate (`>`), a line and an LF are a block. What is read is the lines of the blocks, up to the first gate that
-- isn't open, or to the end of the file where a block is cut short. `front` is what was read of a line.
abbrev pub lines_from : Option (List ℕ) → List ℕ → List (List ℕ)
lines_from front [] = []
lines_from None (b ∷ bytes) = if b == 62 then lines_from (Some []) bytes else []
lines_from (Some front) (b ∷ bytes) =
    if b == 10 then front ∷ lines_from None bytes else lines_from (Some (front ++ b ∷ [])) bytes

-- the lines that a file stands for
abbrev pub kept : List ℕ → List (List ℕ)
kept file = lines_from None file

-- no LF is in it
abbrev pub IsLine : List ℕ → Type 0
IsLine line = AllByRecursion (λ b. b ≢ 10) line

-- each of them is a line
abbrev pub AreLines : List (List ℕ) → Type 0
AreLines lines = AllByRecursion IsLine lines

-- open blocks of these lines
abbrev pub blocks : List (List ℕ) → List ℕ
blocks [] = []
blocks (line ∷ lines) = 62 ∷ (line ++ 10 ∷ blocks lines)

-- open blocks, and then a closed gate (`.`)
abbrev pub at_rest : List (List ℕ) → List ℕ
at_rest lines = blocks lines ++ 46 ∷ []

-- the file is blocks of lines and a closed gate, and nothing more
abbrev pub IsAtRest : List ℕ → Type 0
IsAtRest file = file ≡ at_rest (kept file)

-- the other file stands for the same lines
abbrev pub HasSameLines : List ℕ → List ℕ → Type 0
HasSameLines file other = kept other ≡ kept file

-- the file of a scroll
abbrev pub device_of : {D : Type 0} → Scroll D → D
device_of scroll = scroll.device

-- the file is blocks of lines and a closed gate, all of it on the disk
pub record IsSettled
    {D : Type 0} (seen : D → List ℕ) (may_leave : D → List ℕ → Type 0) (scroll : Scroll D) : Type 0 where
  pub file : seen scroll.device ≡ at_rest (kept (seen scroll.device))
  pub end : scroll.end ≡ length (blocks (kept (seen scroll.device)))
  pub lines : AreLines (kept (seen scroll.device))
  pub durable : Only (seen scroll.device) (may_leave scroll.device)

-- the file stands for these lines, with one more or without it
abbrev pub IsBeforeOrAfter : List (List ℕ) → List ℕ → List ℕ → Type 0
IsBeforeOrAfter lines line file = (kept file ≡ lines) ⊎ (kept file ≡ lines ++ line ∷ [])

-- the file stands for these lines, or for the one alone
abbrev pub IsBeforeOrAnew : List (List ℕ) → List ℕ → List ℕ → Type 0
IsBeforeOrAnew lines head file = (kept file ≡ lines) ⊎ (kept file ≡ head ∷ [])

-- the file is one of two
abbrev pub IsOneOf : List ℕ → List ℕ → List ℕ → Type 0
IsOneOf first second file = (file ≡ first) ⊎ (file ≡ second)
