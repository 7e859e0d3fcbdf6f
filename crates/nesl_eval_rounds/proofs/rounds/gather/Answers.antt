use Rattle.std.proofs.Common.{subst}
use Rattle.nesl_values.specs.View.{tree_of}
use Rattle.nesl_eval_meaning.specs.Out.{value}
use Rattle.nesl_eval_rounds.specs.Rounds.{between, in_turn}
use Rattle.nesl_eval_rounds.specs.Leads.{Gave}
use Rattle.nesl_eval_rounds.proofs.rounds.gather.Goals as goal

pub returns-clause-gave : goal.returns-clause-gave
returns-clause-gave g c = λ t n b env st.
    subst (λ r. Gave c.args.meter.now.fuel c.gather.result c.gather.new.meter.fuel (in_turn t n b env st r (value (tree_of c.args.made) 0 c.args.meter.now.depth)) (between t n b env st c.gather.new.self))
    c.deref_mut.ensures.value (c.gather.ensures.gave t n b env st)
