use Rattle.std.proofs.Common.{length, false}
use Rattle.std.proofs.lemmas.List.{take-replicate}
use Rattle.nesl_seqs_index.proofs.permute.check_by_table.Goals as goal

pub check_by_marks-requires : goal.check_by_marks-requires
check_by_marks-requires g c =
    take-replicate (length c.args.indices.now) g.row.PLACES false c.requires.enough
