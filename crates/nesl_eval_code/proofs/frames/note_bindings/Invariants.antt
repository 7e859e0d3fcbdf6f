use Rattle.nesl_eval_code.specs.Frame.{AreNoted, patterns_before}
use Rattle.nesl_eval_code.proofs.frames.note_bindings.Given as goal

abbrev pub invariant-loop-index : goal.invariant-loop-index
invariant-loop-index l = AreNoted (patterns_before l.bound l.index) l.names.entries
