use Rattle.std.proofs.Common.{◌≡◌, length, take}
use Rattle.nesl_seqs.specs.Elements.{wrapped_total}
use Rattle.nesl_seqs.proofs.Before.{first_told}
use Rattle.nesl_seqs.proofs.fold.scans.sums_of_ints.Given as goal

abbrev pub invariant-loop-place : goal.invariant-loop-place
invariant-loop-place g l =
    (length l.sums.items ≡ length l.ints) × (l.total ≡ wrapped_total (take l.place l.ints))
    × (take l.place l.sums.items ≡ first_told wrapped_total l.ints l.place)
