use Rattle.std.proofs.Common.{◌≡◌, take}
use Rattle.nesl_seqs.specs.Elements.{wrapped_total}
use Rattle.nesl_seqs.proofs.fold.reductions.wrapped_sum.Given as goal

abbrev pub invariant-loop-number : goal.invariant-loop-number
invariant-loop-number l =
    l.total ≡ wrapped_total (take l.number-index l.ints)
