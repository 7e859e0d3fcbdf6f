use Rattle.std.proofs.Common.{[], ◌∷◌}
use Rattle.std.specs.Prelude.{codes}
use Rattle.nesl_lex.proofs.Reading.{reading_computes}
use Rattle.nesl_lex.proofs.laws.worked_lines.Goals as goal

pub returns-clause-arrow : goal.returns-clause-arrow
returns-clause-arrow c = reading_computes (codes "1<-2")

pub returns-clause-arrow_and_minus : goal.returns-clause-arrow_and_minus
returns-clause-arrow_and_minus c = reading_computes (codes "1<--2")

pub returns-clause-two_minuses : goal.returns-clause-two_minuses
returns-clause-two_minuses c = reading_computes (codes "a--b")

pub returns-clause-three_colons : goal.returns-clause-three_colons
returns-clause-three_colons c = reading_computes (codes ":::")

pub returns-clause-two_comments : goal.returns-clause-two_comments
returns-clause-two_comments c = reading_computes (codes "%a%%b%")

pub returns-clause-percent_in_text : goal.returns-clause-percent_in_text
returns-clause-percent_in_text c = reading_computes (34 ∷ 97 ∷ 37 ∷ 98 ∷ 34 ∷ [])

pub returns-clause-open_text : goal.returns-clause-open_text
returns-clause-open_text c = (_, reading_computes (120 ∷ 32 ∷ 34 ∷ 97 ∷ []))

pub returns-clause-open_comment : goal.returns-clause-open_comment
returns-clause-open_comment c = (_, reading_computes (codes "x %a"))

pub returns-clause-blank_character : goal.returns-clause-blank_character
returns-clause-blank_character c = reading_computes (codes "` x")

pub returns-clause-lone_backquote : goal.returns-clause-lone_backquote
returns-clause-lone_backquote c = (_, reading_computes (codes "x`"))

pub returns-clause-backquote_and_delete : goal.returns-clause-backquote_and_delete
returns-clause-backquote_and_delete c = (_, reading_computes (96 ∷ 127 ∷ []))

pub returns-clause-greatest_number : goal.returns-clause-greatest_number
returns-clause-greatest_number c = reading_computes (codes "9223372036854775807")

pub returns-clause-too_large_number : goal.returns-clause-too_large_number
returns-clause-too_large_number c = (_, reading_computes (codes " 9223372036854775808"))

pub returns-clause-leading_zeros : goal.returns-clause-leading_zeros
returns-clause-leading_zeros c = reading_computes (codes "00000000000000000000009")

pub returns-clause-truth_and_name : goal.returns-clause-truth_and_name
returns-clause-truth_and_name c = reading_computes (codes "T tt")

pub returns-clause-folded_words : goal.returns-clause-folded_words
returns-clause-folded_words c = reading_computes (codes "iF False X_1")

pub returns-clause-number_and_name : goal.returns-clause-number_and_name
returns-clause-number_and_name c = reading_computes (codes "1in2")

pub returns-clause-zero_byte : goal.returns-clause-zero_byte
returns-clause-zero_byte c = (_, reading_computes (97 ∷ 0 ∷ []))

pub returns-clause-large_byte : goal.returns-clause-large_byte
returns-clause-large_byte c = (_, reading_computes (32 ∷ 200 ∷ []))
