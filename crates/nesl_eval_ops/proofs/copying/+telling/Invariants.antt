use Rattle.std.proofs.Common.{◌+◌, ◌*◌, ℕ}
use denote.Param.Weighed.{most}
use Rattle.nesl_eval_code.specs.declared.code.Code.{Code}
use Rattle.nesl_eval_code.proofs.code.Code.TheLaws as node
use Rattle.nesl_eval_ops.proofs.copying.+telling.Given as goal

abbrev size : Code → ℕ
size c = node.the_size c

abbrev pub decreases-is_plain : goal.decreases-is_plain
decreases-is_plain l = 2 * size l.code.now

abbrev pub decreases-are_plain : goal.decreases-are_plain
decreases-are_plain l = 2 * most (λ (c : Code). size c) l.codes.now + 1
