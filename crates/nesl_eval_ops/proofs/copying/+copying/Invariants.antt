use Rattle.std.proofs.Common.{◌+◌, ◌*◌, ℕ, take}
use denote.Param.Weighed.{most}
use Rattle.nesl_eval_code.specs.declared.code.Code.{Code}
use Rattle.nesl_eval_code.proofs.code.Code.TheLaws as node
use Rattle.nesl_eval_ops.specs.Copies.{AreLaidAs}
use Rattle.nesl_eval_ops.proofs.copying.+copying.Given as goal

abbrev size : Code → ℕ
size c = node.the_size c

abbrev pub decreases-copy_plain : goal.decreases-copy_plain
decreases-copy_plain l = 4 * size l.code.now + 1

abbrev pub decreases-copy_applied : goal.decreases-copy_applied
decreases-copy_applied l = 4 * size l.code.now

abbrev pub decreases-copy_choice_or_let : goal.decreases-copy_choice_or_let
decreases-copy_choice_or_let l = 4 * size l.code.now

abbrev pub decreases-copy_boxed : goal.decreases-copy_boxed
decreases-copy_boxed l = 4 * size l.code.now + 3

abbrev pub decreases-copy_into_box : goal.decreases-copy_into_box
decreases-copy_into_box l = 4 * size l.code.now + 2

abbrev pub decreases-copy_all : goal.decreases-copy_all
decreases-copy_all l = 4 * most (λ (c : Code). size c) l.codes.now + 3

abbrev pub decreases-add_copy : goal.decreases-add_copy
decreases-add_copy l = 4 * size l.code.now + 2

abbrev pub invariant-copy_all-loop-code : goal.invariant-copy_all-loop-code
invariant-copy_all-loop-code l = AreLaidAs l.copies.items (take l.code-index l.codes)
