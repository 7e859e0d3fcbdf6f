use Rattle.std.proofs.Common.{◌≡◌, ap, ◌∙◌, set}
use Rattle.nesl_unify_graph.specs.declared.node.Node.{Node}
use Rattle.nesl_unify_graph.specs.declared.node.Node.TheVariants.{Same}
use Rattle.nesl_unify_graph.specs.Graph.{node_at}
use Rattle.nesl_unify_graph.specs.Steps.{merged}
use Rattle.nesl_unify_graph.proofs.Joins.{read_node}
use Rattle.nesl_unify_graph.proofs.unify.link.Goals as goal

pub returns : goal.returns
returns c =
    let ns = c.args.nodes.now.items in
    let p = c.args.pair.first in
    let q = c.args.pair.second in
    let a = read_node ns p c.index.result.now c.requires.0 c.index.ensures in
    let b = read_node ns q c.index-2.result.now c.requires.1 c.index-2.ensures in
    let e : c.merged.result ≡ merged (node_at ns p) (node_at ns q) = c.merged.ensures ∙ ap (λ (n : Node). merged n c.index-2.result.now) a ∙ ap (merged (node_at ns p)) b in
    ap (λ (n : Node). set (set ns p n) q (Same p)) e
