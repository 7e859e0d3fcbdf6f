use Rattle.std.proofs.Common.{◌≡◌, length, sym}
use Rattle.nesl_values.specs.Tree.{size, sequence}
use Rattle.nesl_values.specs.View.{item_trees}
use Rattle.nesl_seqs_base.specs.Permute.{rearranged}
use Rattle.nesl_seqs_base.specs.Places.{places_of}
use Rattle.nesl_seqs_index.proofs.Permuting.{is_arranged_trees, size_rearranged}
use Rattle.nesl_seqs_index.proofs.permute.price_of_permuted.Goals as goal

pub returns : goal.returns
returns g c =
    let ts = item_trees c.args.items in
    let us = item_trees c.args.indices in
    let there = is_arranged_trees us ts c.requires in
    let same : size (sequence (rearranged ts (places_of (length ts) us))) ≡ size (sequence ts) = size_rearranged ts us there.same there.named there.differ in
    rw same (rw (sym c.len.ensures) (rw (sym c.len-2.ensures) c.price_of_items.ensures))
