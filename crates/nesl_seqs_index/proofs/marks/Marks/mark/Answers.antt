use Rattle.std.proofs.Common.{◌/◌, ◌<◌, length, rules}
use Rattle.nesl_seqs_index.proofs.Marking.{one_marked}
use Rattle.nesl_seqs_index.proofs.marks.Marks.mark.Goals as goal

pub returns : goal.returns
returns c q =
    let within : c.args.place / 64 < length c.args.self.now.words = search rules in
    one_marked c.args.self.now.words c.args.place q within
