use Rattle.std.proofs.Common.{◌≡◌, ◌+◌, true, false, length, arith}
use Rattle.nesl_values.specs.Parts.{as_bool}
use Rattle.nesl_values.specs.View.{item_trees}
use Rattle.nesl_seqs_base.specs.Pieces.{sequence_of_two}
use Rattle.nesl_seqs_base.specs.Sides.{marked}
use Rattle.nesl_seqs_base.proofs.Priced.{read_alike}
use Rattle.nesl_seqs_build.specs.Plans.{flags_in}
use Rattle.nesl_seqs_build.proofs.Planned.{length_in}
use Rattle.nesl_seqs_build.proofs.Splitting.{size_beside}
use Rattle.nesl_seqs_build.proofs.sides.price_of_sides.Goals as goal

pub returns : goal.returns
returns g c =
    let ts = item_trees c.args.items in
    let us = item_trees c.args.flags in
    let bs = flags_in us in
    let same : length ts ≡ length bs = omega (arith, length_in as_bool us c.requires.flags, c.requires.lengths) in
    let u = sequence_of_two (marked false ts bs) (marked true ts bs) in
    read_alike c.price_of_more.result u (c.len.result + c.len-2.result) (length ts + length us) c.args.limit (omega (arith, c.len.ensures, c.len-2.ensures)) (c.price_of_more.ensures u (size_beside ts bs same))
