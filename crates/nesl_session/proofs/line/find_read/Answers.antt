use Rattle.std.proofs.Common.{◌++◌, subst}
use Rattle.nesl_syntax_tree.specs.Views.{line_of}
use Rattle.nesl_session_meaning.specs.Reading.{HasReading, no_token, no_form, too_high, form}
use Rattle.nesl_session_meaning.specs.Finding.{lexical, syntax, nested, has_tree}
use Rattle.nesl_session.specs.declared.forms.reading.Reading.{Reading as Seen}
use Rattle.nesl_session.specs.Found.{reading_of}
use Rattle.nesl_session.proofs.line.find_read.Goals as goal

pub returns-in-Stuck-clause-found : goal.returns-in-Stuck-clause-found
returns-in-Stuck-clause-found g c =
    let P : Seen → Type 0 = λ y. HasReading (c.args.standing.now.pending.items ++ c.args.text.now) (reading_of y) in
    (no_token c.in-Stuck.at, subst P c.in-Stuck.is c.in_ok-at.ensures, lexical)

pub returns-in-NoForm-clause-found : goal.returns-in-NoForm-clause-found
returns-in-NoForm-clause-found g c =
    let P : Seen → Type 0 = λ y. HasReading (c.args.standing.now.pending.items ++ c.args.text.now) (reading_of y) in
    (no_form, subst P c.in-NoForm.is c.in_ok-at.ensures, syntax)

pub returns-in-TooHigh-clause-found : goal.returns-in-TooHigh-clause-found
returns-in-TooHigh-clause-found g c =
    let P : Seen → Type 0 = λ y. HasReading (c.args.standing.now.pending.items ++ c.args.text.now) (reading_of y) in
    (too_high, subst P c.in-TooHigh.is c.in_ok-at.ensures, nested)

pub returns-in_ok-finding-in-Form-clause-found : goal.returns-in_ok-finding-in-Form-clause-found
returns-in_ok-finding-in-Form-clause-found g c =
    let P : Seen → Type 0 = λ y. HasReading (c.args.standing.now.pending.items ++ c.args.text.now) (reading_of y) in
    (form (line_of c.in-Form.form), subst P c.in-Form.is c.in_ok-at.ensures, has_tree c.in_ok-finding-in-Form.ensures.found)
