use Rattle.std.proofs.Common.{subst}
use Rattle.nesl_eval_meaning.specs.Outcome.{small_enough}
use Rattle.nesl_eval_nodes.specs.Meets.{Meets, Is}
use Rattle.nesl_eval_nodes.proofs.nodes.make_pair.Goals as goal

pub returns-in-Ok : goal.returns-in-Ok
returns-in-Ok g c = λ m. subst (λ t. Meets (Is {A = g.row.A.Denot}) m c.within_limit.result m (small_enough c.args.span t)) c.in-Ok.ensures (c.within_limit.ensures m)
