use Rattle.std.proofs.Common.{◌≡◌, ◌∙◌, map, ap, sym}
use Rattle.std.proofs.lemmas.List.{length-map}
use Rattle.nesl_values.specs.Tree.{sequence}
use Rattle.nesl_seqs_base.specs.Outcome.{if_there, gives}
use Rattle.nesl_seqs_base.specs.Permute.{all_differ, permuted}
use Rattle.nesl_seqs_base.specs.Places.{places_of}
use Rattle.nesl_seqs_base.specs.Reductions.{all_of}
use Rattle.nesl_values.specs.Parts.{as_int}
use Rattle.nesl_seqs_index.specs.Arriving.{Arrive}
use Rattle.nesl_seqs_index.proofs.Permuting.{is_arranged, arrived, ok_told}
use Rattle.nesl_seqs_index.proofs.permute.permuted_leaves.Goals as goal

pub arranged-requires-clause-same : goal.arranged-requires-clause-same
arranged-requires-clause-same g c =
    let there = is_arranged g.I.Item.tree c.args.indices.now (map g.T.Item.tree c.args.items.now) c.requires in
    sym (length-map c.args.indices.now g.I.Item.tree) ∙ there.same ∙ length-map c.args.items.now g.T.Item.tree

pub arranged-requires-clause-differ : goal.arranged-requires-clause-differ
arranged-requires-clause-differ g c =
    let js = map g.I.Item.tree c.args.indices.now in
    let there = is_arranged g.I.Item.tree c.args.indices.now (map g.T.Item.tree c.args.items.now) c.requires in
    ap (λ n. all_differ (places_of n js)) (sym (length-map c.args.indices.now g.I.Item.tree) ∙ there.same) ∙ there.differ

pub returns : goal.returns
returns g c =
    let f = g.T.Item.tree in
    let xs = c.args.items.now in
    let js = map g.I.Item.tree c.args.indices.now in
    let there = is_arranged g.I.Item.tree c.args.indices.now (map f xs) c.requires in
    ok_told (λ v. Arrive xs v.items js) (λ v. if_there (all_of as_int js) (permuted (map f xs)) ≡ gives (sequence (map f v.items)))
    c.arranged.result c.arranged.ensures (λ v h. there.is ∙ ap (λ us. gives (sequence us)) (sym (arrived f xs v.items js there.same there.named there.differ h)))
