use Rattle.std.proofs.Common.{◌≡◌, ◌++◌, take, map}
use Rattle.nesl_values.specs.View.{tree_of}
use Rattle.nesl_reply.specs.Values.{code_of}
use Rattle.nesl_reply.proofs.value.write_codes.Given as goal

abbrev pub invariant-loop-item : goal.invariant-loop-item
invariant-loop-item l = l.out.items ≡ l.initial.out.items ++ map code_of (map tree_of (take l.item-index l.items))
