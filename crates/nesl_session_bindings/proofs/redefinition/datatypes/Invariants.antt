use Rattle.std.proofs.Common.{◌≡◌, ◌+◌, ◌≤◌, drop}
use Rattle.nesl_eval_sound.specs.Lines.{datatypes}
use Rattle.nesl_session_bindings.proofs.redefinition.datatypes.Given as goal

abbrev pub invariant-loop-place : goal.invariant-loop-place
invariant-loop-place l = (l.count ≤ l.place) × (l.count + datatypes (drop l.place l.env) ≡ datatypes l.env)
