use Rattle.std.proofs.Common.{◌≡◌, ℕ, List, false, subst, sym}
use Rattle.nesl_lex.specs.Lexemes.{AllBytes}
use Rattle.nesl_forms.specs.Lines.{is_no_feed, is_part}
use Rattle.nesl_forms.proofs.LineLemmas.{line_no_feed, line_no_part}
use Rattle.nesl_forms.proofs.line.line_of.Goals as goal

pub returns-clause-one : goal.returns-clause-one
returns-clause-one c = subst (λ (bs : List ℕ). AllBytes is_no_feed bs) (sym c.in_ok-line.ensures) (line_no_feed c.args.kind c.args.form.now)

pub returns-clause-whole : goal.returns-clause-whole
returns-clause-whole c = subst (λ (bs : List ℕ). is_part bs ≡ false) (sym c.in_ok-line.ensures) (line_no_part c.args.kind c.args.form.now)
