use Rattle.nesl_eval_meaning.proofs.Joins.{all_halved}
use Rattle.nesl_eval_meaning.proofs.laws.halves_places.Goals as goal

pub returns-clause-values : goal.returns-clause-values
returns-clause-values c = all_halved

pub returns-clause-places : goal.returns-clause-places
returns-clause-places c = all_halved
