use Rattle.nesl_unify.proofs.Instances.{leaf_instance}
use Rattle.nesl_unify.proofs.instance.shared_node.Goals as goal

pub returns-in-Some : goal.returns-in-Some
returns-in-Some c =
    leaf_instance c.args.instances.now c.args.fresh.now c.args.part.now c.leaf_node.result c.in-Some.node c.in-Some.is c.leaf_node.ensures.said c.leaf_node.ensures.same
