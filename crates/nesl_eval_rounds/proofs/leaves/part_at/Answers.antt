use Rattle.std.proofs.Common.{Err, subst}
use Rattle.nesl_values.specs.View.{tree_of}
use Rattle.nesl_eval_meaning.specs.Out.{value, given}
use Rattle.nesl_eval_nodes.specs.declared.meter.Stop.TheVariants.{Stuck}
use Rattle.nesl_eval_nodes.specs.Meets.{Meets, Is}
use Rattle.nesl_eval_rounds.proofs.Found.{owned}
use Rattle.nesl_eval_rounds.proofs.leaves.part_at.Goals as goal

pub returns-in-Some : goal.returns-in-Some
returns-in-Some g c = λ m.
    subst (λ o. Meets (Is {A = g.row.A.Denot}) m c.share_value.result m (given o (λ v. value v 0 0))) c.in-Some.ensures
    (owned m c.share_value.result (tree_of c.in-Some.part.now) c.share_value.ensures)

pub returns-in-None : goal.returns-in-None
returns-in-None g c = λ m.
    subst (λ o. Meets (Is {A = g.row.A.Denot}) m (Err Stuck) m (given o (λ v. value v 0 0))) c.in-None.ensures tt
