use Rattle.std.proofs.Common.{◌∙◌, ◌<◌, ◌^◌, pos, ap, w64}
use Rattle.std.proofs.lemmas.Int.{to_z_pos}
use Rattle.nesl_values.specs.Tree.{int}
use Rattle.nesl_values.specs.View.{tree_of, item_trees}
use Rattle.nesl_eval_column_results.proofs.Elements.{is_sequence}
use Rattle.nesl_eval_column_results.proofs.outer.length_of.Goals as goal

pub returns : goal.returns
returns g c =
    let v = tree_of c.args.sequence.now in
    let ts = item_trees c.items.result in
    let its = is_sequence v ts c.in_ok-_len._len c.in_ok-_len.ensures c.items.ensures.items in
    let small : c.len.result < 2 ^ 63 = rw c.len.ensures c.items.ensures.len in
    (ts, its, ap int (to_z_pos w64 c.len.result small ∙ ap pos c.len.ensures))
