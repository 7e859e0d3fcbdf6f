use Rattle.std.proofs.Common.{◌≡◌, ◌-◌, length}
use Rattle.nesl_eval_code.proofs.frames.Frame.of.Given as goal

abbrev pub invariant-loop-frame : goal.invariant-loop-frame
invariant-loop-frame l = l.frame.bound.now ≡ l.bound

abbrev pub decreases-loop-frame : goal.decreases-loop-frame
decreases-loop-frame l = length l.bound - l.frame.seen
