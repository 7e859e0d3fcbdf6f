use Rattle.std.proofs.Common.{◌+◌, map, length, arith}
use Rattle.nesl_values.specs.Tree.{sequence}
use Rattle.nesl_values.specs.Parts.{as_int}
use Rattle.nesl_values.specs.View.{item_trees}
use Rattle.nesl_seqs_base.specs.Levels.{pieces}
use Rattle.nesl_seqs_base.proofs.Priced.{read_alike}
use Rattle.nesl_seqs_build.specs.Plans.{counts_in}
use Rattle.nesl_seqs_build.proofs.Cutting.{size_pieces}
use Rattle.nesl_seqs_build.proofs.Planned.{length_in}
use Rattle.nesl_seqs_build.proofs.levels.price_of_pieces.Goals as goal

pub returns : goal.returns
returns g c =
    let ts = item_trees c.args.items in
    let us = item_trees c.args.counts in
    let zs = counts_in us in
    let u = sequence (map sequence (pieces ts zs)) in
    read_alike c.price_of_more.result u (c.len.result + c.len-pieces.result) (length ts + length us) c.args.limit (omega (arith, c.len.ensures, c.len-pieces.ensures)) (c.price_of_more.ensures u (omega (arith, size_pieces ts zs c.requires.lengths, length_in as_int us c.requires.counts, c.len-pieces.ensures)))
