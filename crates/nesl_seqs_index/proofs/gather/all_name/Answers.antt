use Rattle.std.proofs.Common.{◌∙◌, ap, is_some}
use Rattle.std.specs.List.{list_all}
use Rattle.std.proofs.lemmas.List.{take_all}
use Rattle.nesl_seqs_base.specs.Places.{place_of}
use Rattle.nesl_seqs_index.proofs.Naming.{named_more}
use Rattle.nesl_seqs_index.proofs.gather.all_name.Goals as goal

pub loop-index-preserved : goal.loop-index-preserved
loop-index-preserved g c =
    named_more g.I.Item.tree c.args.len c.args.indices.now c.loop-index.index-index c.index-item.result c.place_of.result c.loop-index.all c.is_some-all.result c.loop-index-test.true c.index-item.is c.place_of.ensures.place c.is_some-all.ensures c.loop-index.invariant

pub returns : goal.returns
returns g c =
    c.loop-index.invariant ∙ ap (λ is. list_all (λ i. is_some (place_of c.args.len (g.I.Item.tree i))) is) (take_all c.loop-index.index-index c.args.indices.now c.loop-index-test.false)
