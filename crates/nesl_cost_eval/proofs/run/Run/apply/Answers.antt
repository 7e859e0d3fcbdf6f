use Rattle.nesl_seqs_base.specs.Lent.{argument_tree}
use Rattle.nesl_eval_meaning.specs.Outcome.{apply_builtin}
use Rattle.nesl_cost_eval.proofs.run.Run.apply.Goals as goal

pub returns : goal.returns
returns c = c.settle.ensures (apply_builtin c.args.span c.args.function (argument_tree c.args.argument)) c.apply_builtin-found.ensures.meets
