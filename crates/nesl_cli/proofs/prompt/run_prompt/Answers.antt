use Rattle.std.proofs.Common.{ap, ◌∙◌}
use Rattle.nesl_session_meaning.specs.State.{empty_log}
use Rattle.nesl_cli.proofs.Ends.{heard, broken}
use Rattle.nesl_cli.proofs.prompt.run_prompt.Goals as goal

pub returns-in-None-clause-prompted : goal.returns-in-None-clause-prompted
returns-in-None-clause-prompted g c =
    heard _ c.converse-ran.result.end c.converse-ran.result.lines _ _ _ _ _ c.in-Ok.session c.converse-ran.new.session (c.in-Ok.ensures.empty ∙ ap empty_log c.limits_by.ensures) c.converse-ran.ensures c.in-None.ensures

pub returns-clause-failed : goal.returns-clause-failed
returns-clause-failed g c =
    broken _ c.converse-ran.result.end c.in-Some.fault c.converse-ran.result.lines _ _ _ _ _ c.in-Ok.session c.converse-ran.new.session (c.in-Ok.ensures.empty ∙ ap empty_log c.limits_by.ensures) c.converse-ran.ensures c.in-Some.ensures
