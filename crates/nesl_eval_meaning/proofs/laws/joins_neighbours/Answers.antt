use Rattle.nesl_eval_meaning.proofs.Joins.{join_law}
use Rattle.nesl_eval_meaning.proofs.laws.joins_neighbours.Goals as goal

pub returns-clause-values : goal.returns-clause-values
returns-clause-values c = join_law

pub returns-clause-places : goal.returns-clause-places
returns-clause-places c = join_law
