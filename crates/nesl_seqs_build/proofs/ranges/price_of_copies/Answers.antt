use Rattle.std.proofs.Common.{replicate, arith}
use Rattle.nesl_values.specs.Tree.{sequence}
use Rattle.nesl_values.specs.View.{tree_of}
use Rattle.nesl_seqs_build.proofs.Moved.{priced_within}
use Rattle.nesl_seqs_build.proofs.Numbers.{sizes_replicate}
use Rattle.nesl_seqs_build.proofs.ranges.price_of_copies.Goals as goal

pub returns : goal.returns
returns g c =
    let t = tree_of c.args.item.now in
    let nodes = sizes_replicate c.args.count t in
    priced_within (sequence (replicate c.args.count t)) 0 _ _ c.args.limit (omega (arith, nodes, c.in_ok-below.ensures)) (omega arith) (omega (arith, c.in_ok-below.ensures))
