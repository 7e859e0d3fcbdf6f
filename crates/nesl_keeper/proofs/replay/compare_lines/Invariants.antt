use Rattle.std.proofs.Common.{◌≡◌, length, map}
use Rattle.nesl_keeper.proofs.replay.compare_lines.Given as goal

abbrev pub invariant-loop-rest : goal.invariant-loop-rest
invariant-loop-rest l = map (λ v. v.items) l.left ≡ map (λ v. v.items) l.rest → map (λ v. v.items) l.own ≡ map (λ v. v.items) l.lines

abbrev pub decreases-loop-rest : goal.decreases-loop-rest
decreases-loop-rest l = length l.rest
