-- The lines of a text.
use Rattle.std.specs.Prelude.{◌≡◌, ◌≢◌, ℕ, ◌+◌, ◌==◌, List, [], ◌∷◌, ◌++◌, length, take, map, flat_map, if◌then◌else◌}
use Rattle.std.specs.List.{AllByRecursion}
use Rattle.std.specs.Str.Lines.{strip_carriage_return}
use Rattle.nesl_session_meaning.specs.Step.{longest}

-- no LF is among these bytes
abbrev pub HasNoFeed : List ℕ → Type 0
HasNoFeed bytes = AllByRecursion (λ b. b ≢ 10) bytes

-- a line as it stands in a text, with its LF
abbrev pub with_feed : List ℕ → List ℕ
with_feed line = line ++ 10 ∷ []

-- The text is these lines, each with its LF, and then a rest without one.
pub record Splits (text : List ℕ) (lines : List (List ℕ)) (rest : List ℕ) : Type 0 where
  pub spelled : text ≡ flat_map with_feed lines ++ rest
  pub each : AllByRecursion HasNoFeed lines
  pub open_end : HasNoFeed rest

-- A form has at most 65,536 bytes. Of a longer line the first 65,537 are handed on, so that it is seen to be too long.
abbrev pub most_handed : ℕ
most_handed = longest + 1

-- what is handed on of a line that had its LF: one CR directly before the LF is dropped
abbrev pub handed : List ℕ → List ℕ
handed line = take most_handed (strip_carriage_return line)

-- the lines of a text that was read to its end: its rest is a line unless it is empty, and a CR stays there
pub record AllLines (text : List ℕ) (lines : List (List ℕ)) : Type 0 where
  pub whole : List (List ℕ)
  pub rest : List ℕ
  pub splits : Splits text whole rest
  pub are : lines ≡ map handed whole ++ (if length rest == 0 then [] else take most_handed rest ∷ [])

-- the lines of a text after which a read failed: those whose LF came
pub record WholeLines (text : List ℕ) (lines : List (List ℕ)) : Type 0 where
  pub whole : List (List ℕ)
  pub rest : List ℕ
  pub splits : Splits text whole rest
  pub are : lines ≡ map handed whole
