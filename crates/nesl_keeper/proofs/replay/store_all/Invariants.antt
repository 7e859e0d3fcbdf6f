use Rattle.std.proofs.Common.{◌≡◌, length, map}
use Rattle.nesl_keeper.specs.Files.{with_rows}
use Rattle.nesl_keeper.proofs.replay.store_all.Given as goal

abbrev pub invariant-loop-rest : goal.invariant-loop-rest
invariant-loop-rest l = with_rows l.session (map (λ v. v.items) l.rest) ≡ with_rows l.initial.session (map (λ v. v.items) l.lines)

abbrev pub decreases-loop-rest : goal.decreases-loop-rest
decreases-loop-rest l = length l.rest
