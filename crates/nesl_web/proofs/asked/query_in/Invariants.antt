use Rattle.std.proofs.Common.{◌≡◌, drop}
use Rattle.nesl_web.specs.Asked.{query_in}
use Rattle.nesl_web.proofs.asked.query_in.Given as goal

abbrev pub invariant-loop-place : goal.invariant-loop-place
invariant-loop-place l = query_in (drop l.place l.target) ≡ query_in l.target
