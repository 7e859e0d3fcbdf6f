use Rattle.std.proofs.Common.{map, arith}
use Rattle.std.proofs.lemmas.List.{length-map}
use Rattle.nesl_values.specs.Parts.{as_pair}
use Rattle.nesl_values.specs.View.{tree_of}
use Rattle.nesl_seqs_base.specs.Reductions.{all_of}
use Rattle.nesl_seqs_build.specs.Plans.{sides, pairs_in}
use Rattle.nesl_seqs_build.proofs.Planned.{read_in}
use Rattle.nesl_seqs_build.proofs.Unzipping.{size_unzipped}
use Rattle.nesl_seqs_build.proofs.sides.price_of_unzipped.Goals as goal

pub returns : goal.returns
returns g c =
    let vs = c.args.values.now in
    let ts = map tree_of vs in
    c.price_without_roots.ensures (sides (pairs_in ts)) (omega (arith, size_unzipped ts (pairs_in ts) (read_in (all_of as_pair ts) c.requires), length-map vs tree_of))
