use Rattle.std.proofs.Common.{◌≡◌, drop}
use Rattle.nesl_eval_machine.specs.Steps.{first_call}
use Rattle.nesl_eval_machine.proofs.run.outermost.Given as goal

abbrev pub invariant-loop-frame : goal.invariant-loop-frame
invariant-loop-frame g l = first_call l.frames l.span ≡ first_call (drop l.frame-index l.frames) l.span
