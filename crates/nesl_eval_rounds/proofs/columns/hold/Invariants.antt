use Rattle.std.proofs.Common.{◌≡◌, drop}
use Rattle.nesl_eval_code.specs.Flat.{room}
use Rattle.nesl_eval_rounds.proofs.columns.hold.Given as goal

abbrev pub invariant-loop-size : goal.invariant-loop-size
invariant-loop-size l = l.left ≡ room (drop l.size-index l.sizes) → l.count ≡ room l.sizes
