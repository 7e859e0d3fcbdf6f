use Rattle.std.proofs.Common.{subst}
use Rattle.nesl_types_shared.specs.Term.{Term}
use Rattle.nesl_unify.specs.Facts.{IsInstanceNode}
use Rattle.nesl_unify.proofs.Instances.{leaf_instance}
use Rattle.nesl_unify.proofs.instance.own_node.Goals as goal

pub returns-in-Some : goal.returns-in-Some
returns-in-Some c =
    let i = c.args.instances.now in
    let fresh = c.args.fresh.now in
    let m = c.in-Some.node in
    subst (λ (t : Term). IsInstanceNode i i fresh t m) c.whole.ensures (leaf_instance i fresh c.whole.result c.leaf_node.result m c.in-Some.is c.leaf_node.ensures.said c.leaf_node.ensures.same)
