use Rattle.std.proofs.Common.{◌∙◌, sym, refl}
use Rattle.nesl_seqs.proofs.FoldPlanned.{numbers_packed}
use Rattle.nesl_seqs.proofs.Sums.{short_sums_fit}
use Rattle.nesl_seqs.proofs.fold.scans.all_sums_fit.Goals as goal

pub returns-then-are_few_and_short : goal.returns-then-are_few_and_short
returns-then-are_few_and_short g c =
    rw c.in-Packed.is (c.if-are_few_and_short.true ∙ sym (short_sums_fit c.in-Packed.ints.now (c.if-are_few_and_short.ensures.few refl) (c.if-are_few_and_short.ensures.short refl)))

pub returns-else-are_few_and_short : goal.returns-else-are_few_and_short
returns-else-are_few_and_short g c = rw c.in-Packed.is (rw (numbers_packed c.in-Packed.ints.now) at c.sums_fit.ensures)
