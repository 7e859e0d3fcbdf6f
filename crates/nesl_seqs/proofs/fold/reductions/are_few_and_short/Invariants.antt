use Rattle.std.proofs.Common.{◌≡◌, ◌<◌, ◌^◌, true, take}
use Rattle.std.specs.List.{list_all}
use Rattle.nesl_seqs.specs.Leaves.{is_short}
use Rattle.nesl_seqs.proofs.fold.reductions.are_few_and_short.Given as goal

abbrev pub invariant-loop-number : goal.invariant-loop-number
invariant-loop-number l =
    l.bits < 2 ^ 32 → list_all is_short (take l.number-index l.ints) ≡ true
