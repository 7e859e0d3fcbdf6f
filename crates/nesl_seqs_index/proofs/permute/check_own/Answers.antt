use Rattle.std.proofs.Common.{◌≡◌, ◌≢◌, ◌∙◌, ap, sym, length, map, rules}
use Rattle.nesl_scalars.specs.declared.trap.Trap.TheVariants.{Length}
use Rattle.nesl_values.specs.View.{item_trees}
use Rattle.nesl_seqs_index.specs.Marks.{own_places}
use Rattle.nesl_seqs_index.proofs.Permuting.{refused_uneven}
use Rattle.nesl_seqs_index.proofs.Planned.{refusal, own_planned}
use Rattle.nesl_seqs_index.proofs.permute.check_own.Goals as goal

pub returns-then-len-indices : goal.returns-then-len-indices
returns-then-len-indices g c =
    let ts = item_trees c.args.items in
    let is = c.args.indices.now in
    let uneven : length ts ≢ length is = search rules in
    refusal _ _ Length (refused_uneven g.I.Item.tree is ts uneven)

pub returns : goal.returns
returns g c =
    let ts = item_trees c.args.items in
    let is = c.args.indices.now in
    let same : length ts ≡ length is = search rules in
    own_planned g.I.Item.tree is ts c.check_places.result same (ap (λ n. own_places n (map g.I.Item.tree is)) same ∙ sym c.check_places.ensures)
