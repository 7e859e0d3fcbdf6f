use Rattle.std.proofs.Common.{sym, ◌∙◌}
use Rattle.nesl_eval_rounds.proofs.Gathering.{next_round}
use Rattle.nesl_eval_rounds.proofs.state.Round.go_to_body.Goals as goal

pub returns-in-None-at : goal.returns-in-None-at
returns-in-None-at g c = next_round c.become_body.result c.become_body.ensures (λ h t n b env st. h t n b env st c.in-Some.is (sym c.at.ensures ∙ c.in-None-at.is))
