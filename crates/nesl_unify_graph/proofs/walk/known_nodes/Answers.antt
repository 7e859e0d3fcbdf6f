use Rattle.std.proofs.Common.{sym}
use Rattle.std.proofs.lemmas.Option.{IfSome_then}
use Rattle.nesl_unify_graph.proofs.Sizes.{made_size}
use Rattle.nesl_unify_graph.proofs.walk.known_nodes.Goals as goal

pub returns-in_default : goal.returns-in_default
returns-in_default c =
    IfSome_then c.known_above.result c.known_above.ensures
    (λ k h. made_size c.args.instances.now c.args.nodes.now c.requires.sizes.0 c.args.sizes.now c.args.root k c.node_at.result (sym c.node_at.ensures) c.requires.sizes.1 h)
