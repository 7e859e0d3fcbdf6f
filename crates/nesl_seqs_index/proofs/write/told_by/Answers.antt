use Rattle.std.proofs.Common.{◌≢◌, ◌≤◌, ◌∙◌, length, sym, rules}
use Rattle.nesl_values.specs.View.{tree_of}
use Rattle.nesl_seqs_index.proofs.Writing.{told_at}
use Rattle.nesl_seqs_index.proofs.write.told_by.Goals as goal

pub returns : goal.returns
returns g c =
    let ps = c.args.pairs.now in
    let some : c.args.number ≢ 0 = search rules in
    let within : c.args.number ≤ length ps = search rules in
    c.second_of.ensures ∙ sym (told_at tree_of ps c.args.number c.index-pairs-number.result some within c.index-pairs-number.is)
