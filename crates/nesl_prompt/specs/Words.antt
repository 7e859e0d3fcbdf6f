-- The lines that are the prompt's own.
use Rattle.std.specs.Prelude.{ℕ, List, Bool, true, false, not, nat_eq, ◌&&◌, ◌||◌, ◌==◌, codes}
use Rattle.std.specs.List.{AllByRecursion, ends_with, list_any, starts_with}
use Rattle.std.specs.Prelude.{◌≡◌}
use Rattle.nesl_prompt.specs.declared.word.Word.{Word}
use Rattle.nesl_prompt.specs.declared.word.Word.TheVariants.{Help, TypeOf, More, Cost, Kept, Load, Save, Quit}

abbrev pub begins : (line head : List ℕ) → Bool
begins line head = starts_with nat_eq line head

-- a line that ends in `\`, which a session takes for a part of a form
abbrev pub is_part : List ℕ → Bool
is_part line = ends_with nat_eq line (codes "\\")

-- a line that asks for a type, and isn't the session's own command: it has no `;`, and doesn't end in `\`
abbrev pub asks_type : List ℕ → Bool
asks_type line =
    begins line (codes ":type") && not (list_any (λ b. b == 59) line) && not (is_part line)

-- a line with which the session is given lines: `:load`, or `:type` without a `;`
abbrev pub gives_lines : List ℕ → Bool
gives_lines line = begins line (codes ":load") || asks_type line

-- a line that ends the conversation while no form is unfinished
abbrev pub is_quit : List ℕ → Bool
is_quit line = begins line (codes ":quit")

-- a line that is the prompt's own while no form is unfinished
abbrev pub is_own : List ℕ → Bool
is_own line =
    begins line (codes ":help") || begins line (codes ":more") || begins line (codes ":cost")
    || begins line (codes ":list") || begins line (codes ":save") || is_quit line || gives_lines line

-- whether the session is given lines for a word
abbrev pub word_gives_lines : Word → Bool
word_gives_lines (Help name) = false
word_gives_lines (TypeOf name) = true
word_gives_lines More = false
word_gives_lines (Cost exp) = false
word_gives_lines Kept = false
word_gives_lines (Load file) = true
word_gives_lines (Save file) = false
word_gives_lines Quit = false

-- a space, a tab or a CR
abbrev pub is_blank_byte : ℕ → Bool
is_blank_byte b = b == 32 || b == 9 || b == 13

abbrev pub IsBlank : List ℕ → Type 0
IsBlank line = AllByRecursion (λ b. is_blank_byte b ≡ true) line
