use Rattle.nesl_seqs.proofs.FoldPlanned.{numbers_packed}
use Rattle.nesl_seqs.proofs.fold.scans.bits_before_each.Goals as goal

pub returns-in-Packed : goal.returns-in-Packed
returns-in-Packed g c = rw c.in-Packed.is (rw (numbers_packed c.in-Packed.ints.now) at c.bits_before.ensures)
