use Rattle.std.proofs.Common.{◌≡◌, Some, map, take}
use Rattle.nesl_eval_code.specs.Flat.{leaves_of}
use Rattle.nesl_eval_ops.specs.View.{leaf_is, sizes_of}
use Rattle.nesl_eval_ops.specs.Lists.{parts_on}
use Rattle.nesl_eval_ops.proofs.leaves.leaves.Given as goal

abbrev pub invariant-loop-code : goal.invariant-loop-code
invariant-loop-code l = leaves_of (parts_on l.at.height (sizes_of l.at.sizes.now) (take l.code-index l.codes))
    ≡ Some (map leaf_is l.leaves.items)
