use Rattle.std.proofs.Common.{◌≡◌, ◌*◌, ◌++◌, drop}
use Rattle.nesl_seqs_base.specs.Woven.{evens}
use Rattle.nesl_seqs_index.proofs.woven.every_other.Given as goal

abbrev pub invariant-loop-place : goal.invariant-loop-place
invariant-loop-place g l = l.taken.items ++ evens (drop (2 * l.place) l.items) ≡ evens l.items
