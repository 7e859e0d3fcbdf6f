use Rattle.std.proofs.Common.{ap, ◌∙◌}
use Rattle.nesl_eval_ops.specs.View.{block_of, body_block}
use Rattle.nesl_eval_machine.proofs.Whole.{begun}
use Rattle.nesl_split.proofs.Reaching.{each_comes, filtered_comes}
use Rattle.nesl_split.proofs.reached.reach_round.Goals as goal

pub returns-in-Each : goal.returns-in-Each
returns-in-Each c = λ t fits.
    each_comes t c.args.machine.now c.begin_each.new.machine c.begin_each.result _ _ _ _ _ _ (ap block_of c.in-Each.is) (ap body_block c.deref.ensures) (c.ops.ensures ∙ c.deref-in-Each.ensures) (c.begin_each.ensures t fits)

pub returns-in-Filtered : goal.returns-in-Filtered
returns-in-Filtered c = λ t fits.
    filtered_comes t c.args.machine.now c.begin_each-in-Filtered.new.machine c.begin_each-in-Filtered.result _ _ _ _ _ _ _ _ (ap block_of c.in-Filtered.is) (ap body_block c.deref-in-Filtered-2.ensures) (ap body_block c.deref-in-Filtered.ensures) (c.ops-in-Filtered.ensures ∙ c.deref-in-Filtered-3.ensures) (c.begin_each-in-Filtered.ensures t fits)

pub returns-in_default : goal.returns-in_default
returns-in_default c = λ t fits. begun t c.args.machine.now fits
