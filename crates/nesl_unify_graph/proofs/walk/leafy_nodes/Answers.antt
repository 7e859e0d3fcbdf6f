use Rattle.nesl_unify_graph.proofs.Sizes.{whole_size}
use Rattle.nesl_unify_graph.proofs.walk.leafy_nodes.Goals as goal

pub returns-then-size-gt0 : goal.returns-then-size-gt0
returns-then-size-gt0 c = λ p at.
    let h = c.in_ok-size.ensures c.if-size-gt0.true in
    whole_size c.args.instances.now c.args.nodes.now p c.args.instance c.args.part c.in_ok-size.size at c.requires.part h.0 h.1
