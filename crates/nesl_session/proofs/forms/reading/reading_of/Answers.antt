use Rattle.std.proofs.Common.{ℕ, List, Vec, Global, Err, subst, sym, ap, ◌<◌}
use Rattle.nesl_lex.specs.declared.token.Token.{Token}
use Rattle.nesl_lex.specs.declared.fault.LexFault.{LexFault}
use Rattle.nesl_lex.specs.Tokens.{placed}
use Rattle.nesl_lex.specs.Lexemes.{HasNoTokenAt}
use Rattle.nesl_lex.specs.Faults.{OnLexical}
use Rattle.nesl_syntax_tree.specs.Trees.{FormTree, form_height}
use Rattle.nesl_syntax_tree.specs.Lines.{IsForm}
use Rattle.nesl_syntax_tree.specs.Views.{line_of}
use Rattle.nesl_session_meaning.specs.Reading.{HasReading, no_token, has_no_token, has_no_form, has_high_form, has_form}
use Rattle.nesl_session.proofs.forms.reading.reading_of.Goals as goal

pub returns-in-Err-Lexical : goal.returns-in-Err-Lexical
returns-in-Err-Lexical c =
    let P : LexFault → Type 0 = λ x. OnLexical {X = Vec Token Global} (Err x) (HasNoTokenAt c.args.line.now) in
    let Q : ℕ → Type 0 = λ at. HasReading c.args.line.now (no_token at) in
    subst Q (sym c.in-Err-Lexical.at-is) (has_no_token (subst P c.in-Err-Lexical.field-0-is c.in-Err-Lexical.ensures.stuck))

pub returns-in-Ok-parse_form : goal.returns-in-Ok-parse_form
returns-in-Ok-parse_form c =
    let P : List Token → Type 0 = λ x. IsForm (placed x) (line_of c.in-Ok-parse_form.form) in
    has_form c.in-Ok.ensures.found (subst P c.as_slice.ensures.value c.in-Ok-parse_form.ensures.tree) c.in-Ok-parse_form.ensures.low

pub returns-in-Err-Syntax : goal.returns-in-Err-Syntax
returns-in-Err-Syntax c =
    let P : List Token → Type 0 = λ x. (line : FormTree) → IsForm (placed x) line → ⊥ in
    has_no_form c.in-Ok.ensures.found (subst P c.as_slice.ensures.value (c.in-Err-Syntax.ensures.syntax (ap Err c.in-Err-Syntax.field-0-is)))

pub returns-in-Err-Nested : goal.returns-in-Err-Nested
returns-in-Err-Nested c =
    let P : List Token → Type 0 = λ x. (line : FormTree) × IsForm (placed x) line × (100 < form_height line) in
    let high = subst P c.as_slice.ensures.value (c.in-Err-Nested.ensures.nested (ap Err c.in-Err-Nested.field-0-is)) in
    has_high_form c.in-Ok.ensures.found high.1 high.2
