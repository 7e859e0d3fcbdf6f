use Rattle.std.proofs.Common.{◌∙◌, length, sym, true, false}
use Rattle.nesl_seqs_index.proofs.Tables.{own_range, own_named}
use Rattle.nesl_seqs_index.proofs.permute.check_by_windows.Goals as goal

pub returns-then-not-all_name : goal.returns-then-not-all_name
returns-then-not-all_name g c =
    own_range g.I.Item.tree (length c.args.indices.now) c.args.indices.now (sym c.all_name.ensures ∙ c.if-not-all_name.true)

pub returns-then-not-all_differ : goal.returns-then-not-all_differ
returns-then-not-all_differ g c =
    own_named g.I.Item.tree (length c.args.indices.now) c.args.indices.now false (sym c.all_name.ensures ∙ c.if-not-all_name.false) (sym c.all_differ.ensures ∙ c.if-not-all_differ.true)

pub returns : goal.returns
returns g c =
    own_named g.I.Item.tree (length c.args.indices.now) c.args.indices.now true (sym c.all_name.ensures ∙ c.if-not-all_name.false) (sym c.all_differ.ensures ∙ c.if-not-all_differ.false)
