use Rattle.std.proofs.Common.{◌≡◌, ◌++◌, length, map}
use Rattle.nesl_keep.specs.Scroll.{blocks}
use Rattle.nesl_keep.proofs.blocks.make_blocks.Given as goal

abbrev pub invariant-loop-rest : goal.invariant-loop-rest
invariant-loop-rest l = l.file.items ++ blocks (map (λ v. v.items) l.rest) ≡ blocks (map (λ v. v.items) l.lines)

abbrev pub decreases-loop-rest : goal.decreases-loop-rest
decreases-loop-rest l = length l.rest
