use Rattle.std.proofs.Common.{◌+◌, length, arith}
use Rattle.nesl_values.specs.Tree.{sequence}
use Rattle.nesl_values.specs.View.{item_trees}
use Rattle.nesl_seqs_base.specs.Pairs.{pairs}
use Rattle.nesl_seqs_build.proofs.Moved.{priced_within}
use Rattle.nesl_seqs_build.proofs.Pairing.{size_pairs}
use Rattle.nesl_seqs_build.proofs.pairs.price_of_pairs.Goals as goal

pub returns : goal.returns
returns g c =
    let ts = item_trees c.args.one in
    let us = item_trees c.args.other in
    let nodes = size_pairs ts us c.requires in
    priced_within (sequence (pairs ts us)) (length ts + length us) _ _ c.args.limit (omega (arith, nodes)) (omega (arith, c.requires)) (omega arith)
