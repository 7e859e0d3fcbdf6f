use Rattle.std.proofs.Common.{◌/◌, ◌%◌}
use Rattle.nesl_seqs_index.proofs.Marking.{none_marked}
use Rattle.nesl_seqs_index.proofs.marks.Marks.new.Goals as goal

pub returns : goal.returns
returns c q = none_marked 8192 (q / 64) (q % 64)
