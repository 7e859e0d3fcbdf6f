use Rattle.std.proofs.Common.{◌≡◌, ◌++◌, drop}
use Rattle.nesl_seqs_base.specs.Woven.{woven}
use Rattle.nesl_seqs_index.proofs.woven.woven.Given as goal

abbrev pub invariant-loop-place : goal.invariant-loop-place
invariant-loop-place g l = l.made.items ++ woven (drop l.place l.one) (drop l.place l.other) ≡ woven l.one l.other
