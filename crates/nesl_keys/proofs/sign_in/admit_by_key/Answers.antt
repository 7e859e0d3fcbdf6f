use Rattle.std.proofs.Common.{◌≡◌, true, false, sym, ◌∙◌}
use Rattle.nesl_keys.specs.Admission.{no_key_line, wrong_key}
use Rattle.nesl_keys.proofs.sign_in.admit_by_key.Goals as goal

pub returns-in_default-clause-err : goal.returns-in_default-clause-err
returns-in_default-clause-err c = no_key_line c.in_default.ensures.none

pub returns-else-opens-clause-err : goal.returns-else-opens-clause-err
returns-else-opens-clause-err c =
    let known = c.in-Some.ensures.some in
    wrong_key c.in-Some.words.name.now c.in-Some.words.key.now known.0 known.1
    (λ opens.
    let yes' : c.opens.result ≡ true = c.opens.ensures.1 opens in
    let no' : true ≡ false = sym yes' ∙ c.if-opens.false in
    absurd (cc))
