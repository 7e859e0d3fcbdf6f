use Rattle.nesl_eval_meaning.proofs.Shallow.{depth_within_work}
use Rattle.nesl_eval_meaning.proofs.laws.depth_within_work.Goals as goal

pub returns : goal.returns
returns c = depth_within_work
