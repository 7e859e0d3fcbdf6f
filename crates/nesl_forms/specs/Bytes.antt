-- What a byte is to a form that is read.
use Rattle.std.specs.Prelude.{ℕ, ◌==◌, ◌||◌, if◌then◌else◌}
use Rattle.nesl_lex.specs.Lexemes.{is_blank, is_digit, is_letter, small_letter}
use Rattle.nesl_forms.specs.declared.bytes.ByteKind.{ByteKind}
use Rattle.nesl_forms.specs.declared.bytes.ByteKind.TheVariants.{LineEnd, Blank, Percent, Quote, Backquote, OpenBracket}
use Rattle.nesl_forms.specs.declared.bytes.ByteKind.TheVariants.{OpenBrace, Close, Semicolon, Colon, Backslash, Letter}
use Rattle.nesl_forms.specs.declared.bytes.ByteKind.TheVariants.{Digit, Other}

abbrev pub kind_of : ℕ → ByteKind
kind_of b =
    if is_letter b then Letter (small_letter b) else (
    if b == 10 then LineEnd else (
    if is_blank b then Blank else (
    if b == 37 then Percent else (
    if b == 34 then Quote else (
    if b == 96 then Backquote else (
    if (b == 40) || (b == 91) then OpenBracket else (
    if b == 123 then OpenBrace else (
    if (b == 41) || (b == 93) || (b == 125) then Close else (
    if b == 59 then Semicolon else (
    if b == 58 then Colon else (
    if b == 92 then Backslash else (
    if is_digit b || (b == 95) then Digit else Other))))))))))))
