use Rattle.std.proofs.Common.{[]}
use Rattle.nesl_eval_code.specs.Run.{run}
use Rattle.nesl_eval.proofs.outcome.evaluate.Goals as goal

pub returns : goal.returns
returns g c = λ code bodies is.
    c.outcome_of.ensures (run c.args.levels (g.T.Tops.table c.args.tops.now) [] code) (c.evaluate_ops-found.ensures code bodies is)
