use Rattle.nesl_house.proofs.Alones.{runs_then}
use Rattle.nesl_house.proofs.laws.scripts_follow.Goals as goal

pub returns : goal.returns
returns c = runs_then c.goes_on.ensures
