use Rattle.std.proofs.Common.{arith}
use Rattle.std.specs.List.{flat_map}
use Rattle.nesl_values.specs.Tree.{sequence}
use Rattle.nesl_values.specs.Parts.{elements}
use Rattle.nesl_values.specs.View.{tree_of}
use Rattle.nesl_seqs_build.proofs.Flattening.{size_elements}
use Rattle.nesl_seqs_build.proofs.levels.price_of_flattened.Goals as goal

pub returns : goal.returns
returns g c =
    let vs = c.args.values.now in
    c.price_without_roots.ensures (sequence (flat_map (λ v. elements (tree_of v)) vs)) (omega (arith, size_elements tree_of vs c.requires))
