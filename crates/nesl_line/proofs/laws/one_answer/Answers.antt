use Rattle.nesl_line.proofs.Decided.{one_answer}
use Rattle.nesl_line.proofs.laws.one_answer.Goals as goal

pub returns : goal.returns
returns c = one_answer c.own_lines_decide.ensures
