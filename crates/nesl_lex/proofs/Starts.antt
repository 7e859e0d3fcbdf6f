-- What a first byte begins.
use Rattle.std.proofs.Common.{◌≡◌, ℕ, Bool, true, false, arith}
use Rattle.std.proofs.lemmas.Bool.Decides.{nat_tests}
use Rattle.nesl_lex.specs.declared.scan.Start.TheVariants as start
use Rattle.nesl_lex.specs.Lexemes.{is_blank, is_digit, is_letter, is_name_byte, is_comment_byte}
use Rattle.nesl_lex.specs.Scan.{start_of}

pub clash : (b : Bool) → b ≡ true → b ≡ false → ⊥
clash b x y = cc

pub blank_starts : (b : ℕ) → is_blank b ≡ true → start_of b ≡ start.Blank
blank_starts b h = grind (arith, nat_tests)

pub digit_starts : (b : ℕ) → is_digit b ≡ true → start_of b ≡ start.Number
digit_starts b h = grind (arith, nat_tests)

pub letter_starts : (b : ℕ) → is_letter b ≡ true → start_of b ≡ start.Name
letter_starts b h = grind (arith, nat_tests)

pub start_blank : (b : ℕ) → start_of b ≡ start.Blank → is_blank b ≡ true
start_blank b h = grind (arith, nat_tests)

pub start_comment : (b : ℕ) → start_of b ≡ start.Comment → b ≡ 37
start_comment b h = grind (arith, nat_tests)

pub start_number : (b : ℕ) → start_of b ≡ start.Number → is_digit b ≡ true
start_number b h = grind (arith, nat_tests)

pub start_name : (b : ℕ) → start_of b ≡ start.Name → is_letter b ≡ true
start_name b h = grind (arith, nat_tests)

pub start_character : (b : ℕ) → start_of b ≡ start.Character → b ≡ 96
start_character b h = grind (arith, nat_tests)

pub start_text : (b : ℕ) → start_of b ≡ start.Text → b ≡ 34
start_text b h = grind (arith, nat_tests)

pub letter_is_name_byte : (b : ℕ) → is_letter b ≡ true → is_name_byte b ≡ true
letter_is_name_byte b h = grind (arith, nat_tests)

pub no_comment_byte : (b : ℕ) → is_comment_byte b ≡ false → b ≡ 37
no_comment_byte b h = grind (arith, nat_tests)
