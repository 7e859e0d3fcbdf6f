use Rattle.nesl_values.specs.View.{tree_of}
use Rattle.nesl_seqs_base.proofs.Priced.{element_priced}
use Rattle.nesl_seqs_base.proofs.nodes.price_of_element.Goals as goal

pub returns-in_ok-nodes-in-Node : goal.returns-in_ok-nodes-in-Node
returns-in_ok-nodes-in-Node g c =
    let told = c.in_ok-nodes-in-Node in
    rw c.in-Node.is (element_priced (tree_of c.in-Node.value.now) c.args.limit told.nodes told.ensures.1 told.ensures.0)
