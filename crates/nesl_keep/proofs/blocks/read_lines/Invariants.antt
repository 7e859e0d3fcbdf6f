use Rattle.std.proofs.Common.{◌≡◌, ◌++◌, length, map}
use Rattle.nesl_keep.specs.Scroll.{kept}
use Rattle.nesl_keep.proofs.blocks.read_lines.Given as goal

abbrev pub invariant-loop-rest : goal.invariant-loop-rest
invariant-loop-rest l = map (λ v. v.items) l.lines.items ++ kept l.rest ≡ kept l.bytes

abbrev pub decreases-loop-rest : goal.decreases-loop-rest
decreases-loop-rest l = length l.rest
