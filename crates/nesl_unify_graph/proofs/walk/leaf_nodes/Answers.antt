use Rattle.nesl_unify_graph.proofs.walk.leaf_nodes.Goals as goal

pub returns-then-size-gt0 : goal.returns-then-size-gt0
returns-then-size-gt0 c = c.closed_nodes-size.ensures c.args.nodes.now
