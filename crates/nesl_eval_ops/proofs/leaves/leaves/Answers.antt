use Rattle.std.proofs.Common.{sym, ap, ◌∙◌}
use Rattle.std.specs.Prelude.{option_map}
use Rattle.nesl_eval_ops.specs.View.{leaf_is, sizes_of}
use Rattle.nesl_eval_ops.proofs.Lists.{leaf_more}
use Rattle.nesl_eval_ops.proofs.leaves.leaves.Goals as goal

pub loop-code-preserved : goal.loop-code-preserved
loop-code-preserved c =
    let p = c.args.at.now in
    leaf_more p.height (sizes_of p.sizes.now)
    c.args.codes.now c.loop-code.code-index c.code-item.result c.loop-code.leaves.items c.push.new.self.items
    c.in-Some.leaf
    c.loop-code-test.true c.code-item.is c.loop-code.invariant
    (sym c.in_ok-leaf.ensures ∙ ap (option_map leaf_is) c.in-Some.is) c.in_ok-push-in-Some.ensures.items
