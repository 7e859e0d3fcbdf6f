use Rattle.std.proofs.Common.{◌≡◌, drop}
use Rattle.std.specs.List.{list_any}
use Rattle.nesl_session_bindings.proofs.Walks.{other_refers}
use Rattle.nesl_session_bindings.proofs.redefinition.is_referred.Given as goal

abbrev pub invariant-loop-place : goal.invariant-loop-place
invariant-loop-place l = list_any (other_refers l.name) (drop l.place l.env) ≡ list_any (other_refers l.name) l.env
