-- A line's tokens and its ending, computed. They are what `Reads` relates to the line, which `ReadingComputes` says.
use Rattle.std.specs.Prelude.{ℕ, zero, suc, ◌+◌, ◌^◌, ◌==◌, ◌&&◌, nat_lt, Bool, true, false, if◌then◌else◌, codes}
use Rattle.std.specs.Prelude.{List, [], ◌∷◌, length, take, drop, map, slice_index, Option, Some, None}
use Rattle.std.specs.Str.{bytes_eq}
use Rattle.nesl_lex.specs.declared.token.Word.{Word}
use Rattle.nesl_lex.specs.declared.token.Word.TheVariants as word
use Rattle.nesl_lex.specs.declared.token.Sign.{Sign}
use Rattle.nesl_lex.specs.declared.scan.Start.{Start}
use Rattle.nesl_lex.specs.declared.scan.Start.TheVariants as start
use Rattle.nesl_lex.specs.Tokens.{Lexeme, number, name, reserved, truth, character, quoted, symbol, Placed}
use Rattle.nesl_lex.specs.Lexemes.{is_digit, is_name_byte, is_printable, is_comment_byte, is_text_byte, small_letter}
use Rattle.nesl_lex.specs.Lexemes.{with_digits, word_text, sign_text, Ending, whole, halted_at, token_from}
use Rattle.nesl_lex.specs.Scan.{start_of, front_len, sign_in}

abbrev pub all_words : List Word
all_words =
    word.Function ∷ word.Datatype ∷ word.Let ∷ word.In ∷ word.If ∷ word.Then ∷ word.Else ∷ word.Or ∷ word.Nor
    ∷ word.Xor ∷ word.And ∷ word.Nand ∷ word.Int ∷ word.Bool ∷ word.Char ∷ []

-- the first of these words that is spelled so
abbrev pub word_among : List Word → List ℕ → Option Word
word_among [] small = None
word_among (w ∷ ws) small = if bytes_eq small (word_text w) then Some w else word_among ws small

-- those of these words that have `n` letters
abbrev pub with_letters : ℕ → List Word → List Word
with_letters n [] = []
with_letters n (w ∷ ws) = if n == length (word_text w) then w ∷ with_letters n ws else with_letters n ws

-- the reserved words of `n` letters
abbrev pub words_of : ℕ → List Word
words_of n = with_letters n all_words

abbrev pub word_in : List ℕ → Option Word
word_in small = word_among all_words small

abbrev pub truth_in : List ℕ → Option Bool
truth_in small =
    if bytes_eq small (codes "t") then Some true else (
    if bytes_eq small (codes "true") then Some true else (
    if bytes_eq small (codes "f") then Some false else (
    if bytes_eq small (codes "false") then Some false else None)))

abbrev pub named_by : List ℕ → Option Word → Option Bool → Lexeme
named_by small (Some w) value = reserved w
named_by small None (Some value) = truth value
named_by small None None = name small

-- what these small letters are: a reserved word, a truth value or a name
abbrev pub named_in : List ℕ → Lexeme
named_in small = named_by small (word_in small) (truth_in small)

-- what is at the front of some bytes: a gap or a token, with the number of its bytes, or nothing
pub data Found : Type 0 where
  gap : (count : ℕ) → Found
  token : (count : ℕ) → Lexeme → Found
  no_piece : Found

-- a number of `count` digits, if it is below 2^63
abbrev pub number_found : ℕ → ℕ → Found
number_found count value = if nat_lt value (2 ^ 63) then token count (number value) else no_piece

abbrev pub sign_found : Option Sign → Found
sign_found (Some s) = token (length (sign_text s)) (symbol s)
sign_found None = no_piece

-- a character, where a printable byte follows the backquote
abbrev pub character_found : List ℕ → Found
character_found bytes =
    if nat_lt 1 (length bytes) && is_printable (slice_index bytes 1)
    then token 2 (character (slice_index bytes 1))
    else no_piece

-- a comment with `count` bytes between its marks, by the bytes after its first one
abbrev pub comment_found : ℕ → List ℕ → Found
comment_found count rest = if nat_lt count (length rest) then gap (count + 2) else no_piece

-- a text with `count` bytes before its second quote, by the bytes after its first one
abbrev pub text_found : ℕ → List ℕ → Found
text_found count rest =
    if nat_lt count (length rest) && (slice_index rest count == 34)
    then token (count + 2) (quoted (take count rest))
    else no_piece

-- what is found in bytes that begin so, by those after the first
abbrev pub found_as : Start → List ℕ → List ℕ → Found
found_as start.Blank bytes rest = gap 1
found_as start.Comment bytes rest = comment_found (front_len is_comment_byte rest) rest
found_as start.Number bytes rest =
    number_found (front_len is_digit bytes) (with_digits 0 (take (front_len is_digit bytes) bytes))
found_as start.Name bytes rest =
    token (front_len is_name_byte bytes) (named_in (map small_letter (take (front_len is_name_byte bytes) bytes)))
found_as start.Character bytes rest = character_found bytes
found_as start.Text bytes rest = text_found (front_len is_text_byte rest) rest
found_as start.Other bytes rest = sign_found (sign_in bytes)

abbrev pub found_in : List ℕ → Found
found_in bytes = found_as (start_of (slice_index bytes 0)) bytes (drop 1 bytes)

-- a list of tokens, and how it ends
pub record Reading : Type 0 where
  pub tokens : List Placed
  pub ending : Ending

abbrev pub with_token : Placed → Reading → Reading
with_token t r = record { tokens = t ∷ r.tokens; ending = r.ending }

-- what was found here, and the reading after its bytes
abbrev pub reading_behind : ℕ → Found → (ℕ → Reading) → Reading
reading_behind at (gap n) behind = behind n
reading_behind at (token n x) behind = with_token (token_from x at n) (behind n)
reading_behind at no_piece behind = record { tokens = []; ending = halted_at at }

-- the reading of these bytes, which begin at `at`, in at most this number of turns
abbrev pub reading_from : ℕ → ℕ → List ℕ → Reading
reading_from zero at bytes = record { tokens = []; ending = whole }
reading_from (suc most) at [] = record { tokens = []; ending = whole }
reading_from (suc most) at (b ∷ bs) =
    reading_behind at (found_in (b ∷ bs)) (λ n. reading_from most (at + n) (drop n (b ∷ bs)))

-- the reading of a line
abbrev pub reading_of : List ℕ → Reading
reading_of line = reading_from (length line) 0 line
