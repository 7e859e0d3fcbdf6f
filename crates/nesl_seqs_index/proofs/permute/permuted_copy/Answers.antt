use Rattle.std.proofs.Common.{◌≡◌, ◌∙◌, length, map, ap, sym, arith}
use Rattle.std.proofs.lemmas.List.{length-map}
use Rattle.nesl_values.specs.Tree.{int, sequence}
use Rattle.nesl_seqs_base.specs.Outcome.{gives}
use Rattle.nesl_values.specs.View.{item_trees}
use Rattle.nesl_seqs_base.specs.Permute.{all_differ}
use Rattle.nesl_seqs_base.specs.Places.{elements_at, places_of}
use Rattle.nesl_seqs_index.proofs.Picking.{told}
use Rattle.nesl_seqs_index.proofs.Permuting.{is_arranged, inverse_picks}
use Rattle.nesl_seqs_index.proofs.permute.permuted_copy.Goals as goal

pub inverse_of-requires-clause-few : goal.inverse_of-requires-clause-few
inverse_of-requires-clause-few g c =
    let there = is_arranged g.I.Item.tree c.args.indices.now (item_trees c.args.items) c.requires.given in
    omega (arith, there.same, length-map c.args.indices.now g.I.Item.tree, c.requires.few)

pub inverse_of-requires-clause-differ : goal.inverse_of-requires-clause-differ
inverse_of-requires-clause-differ g c =
    let js = map g.I.Item.tree c.args.indices.now in
    let there = is_arranged g.I.Item.tree c.args.indices.now (item_trees c.args.items) c.requires.given in
    ap (λ n. all_differ (places_of n js)) (sym (length-map c.args.indices.now g.I.Item.tree) ∙ there.same) ∙ there.differ

pub returns-in_ok-inverse-in-Values : goal.returns-in_ok-inverse-in-Values
returns-in_ok-inverse-in-Values g c =
    let ts = item_trees c.args.items in
    let js = map g.I.Item.tree c.args.indices.now in
    let there = is_arranged g.I.Item.tree c.args.indices.now ts c.requires.given in
    let zs = c.in_ok-inverse-in-Values.inverse.items in
    let picks : elements_at ts (places_of (length ts) (map int zs)) ≡ _ = inverse_picks ts js zs there.same there.named there.differ c.in_ok-inverse-in-Values.ensures in
    told c.picked_copy.result _ _ (there.is ∙ ap (λ us. gives (sequence us)) (sym picks)) (rw (sym c.deref.ensures.value) c.picked_copy.ensures)
