use Rattle.std.proofs.Common.{◌≡◌, ◌++◌, take, map}
use Rattle.nesl_reply.specs.Tasks.{other_leaves}
use Rattle.nesl_reply.proofs.leaf.write_other_leaves.Given as goal

abbrev pub invariant-loop-item : goal.invariant-loop-item
invariant-loop-item g l = l.out.items ≡ l.initial.out.items ++ other_leaves (map g.L.Leaf.leaf (take l.item-index l.items))
