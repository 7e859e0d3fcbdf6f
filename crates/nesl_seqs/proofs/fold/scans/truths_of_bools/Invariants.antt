use Rattle.std.proofs.Common.{◌≡◌, length, map, take}
use Rattle.std.specs.List.{range_with_len}
use Rattle.nesl_seqs_base.specs.Scans.{joined_truths}
use Rattle.nesl_seqs.proofs.fold.scans.truths_of_bools.Given as goal

abbrev pub invariant-loop-place : goal.invariant-loop-place
invariant-loop-place g l =
    (length l.joined.items ≡ length l.bools) × (l.so_far ≡ joined_truths l.joint (take l.place l.bools))
    × (take l.place l.joined.items ≡ map (λ k. joined_truths l.joint (take k l.bools)) (range_with_len 0 l.place))
