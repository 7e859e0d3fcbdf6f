use Rattle.std.proofs.Common.{length, slice_set, arith}
use Rattle.nesl_values.specs.Tree.{sequence}
use Rattle.nesl_values.specs.View.{tree_of, item_trees}
use Rattle.nesl_seqs_base.proofs.Totals.{size_replaced}
use Rattle.nesl_seqs_build.proofs.Moved.{priced_within}
use Rattle.nesl_seqs_build.proofs.replace.price_of_replaced.Goals as goal

pub returns : goal.returns
returns g c =
    let ts = item_trees c.args.items in
    let t = tree_of c.args.item.now in
    let nodes = size_replaced ts c.args.place t c.requires in
    priced_within (sequence (slice_set ts c.args.place t)) (length ts) _ _ c.args.limit (omega (arith, nodes)) (omega arith) (omega arith)
