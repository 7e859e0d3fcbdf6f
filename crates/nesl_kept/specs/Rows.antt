-- What is written of a line and the reply to it.
use Rattle.std.specs.Prelude.{◌≡◌, ◌⊎◌, ◌++◌, ◌∷◌, [], ◌/◌, ◌%◌, ◌&&◌, ℕ, List, codes, flat_map, nat_le}
use Rattle.std.specs.Prelude.{slice_index, if◌then◌else◌}
use Rattle.csv.specs.Writing.{default_writer, row_text}
use Rattle.nesl_session_meaning.specs.Response.{Reply}

-- the digit of a number below 16
abbrev pub digit : ℕ → ℕ
digit n = slice_index (codes "0123456789abcdef") n

-- a printable byte of ASCII as it is, and another one as `\x` and two digits
abbrev pub byte_shown : ℕ → List ℕ
byte_shown b =
    if nat_le 32 b && nat_le b 126
    then b ∷ []
    else codes "\\x" ++ digit (b / 16) ∷ digit (b % 16) ∷ []

-- the line itself, or each of its bytes as it is shown
abbrev pub IsShown : (line shown : List ℕ) → Type 0
IsShown line shown = (shown ≡ line) ⊎ (shown ≡ flat_map byte_shown line)

-- `> `, the line as it is shown, an LF, and the bytes of the reply
pub record TellsLine (line : List ℕ) (reply : Reply) (text : List ℕ) : Type 0 where
  pub shown : List ℕ
  pub from_line : IsShown line shown
  pub is : text ≡ (codes "> " ++ shown ++ 10 ∷ []) ++ reply.bytes

-- A row of CSV. Its first fields are the user, the line as it is shown, and the bytes of the reply without their line
-- end.
pub record TellsRow (user line : List ℕ) (reply : Reply) (text : List ℕ) : Type 0 where
  pub shown : List ℕ
  pub from_line : IsShown line shown
  pub answer : List ℕ
  pub cells : List (List ℕ)
  pub is : text ≡ row_text default_writer (user ∷ shown ∷ answer ∷ cells)
  pub replied : (reply.bytes ≡ answer) ⊎ (reply.bytes ≡ answer ++ 10 ∷ [])
