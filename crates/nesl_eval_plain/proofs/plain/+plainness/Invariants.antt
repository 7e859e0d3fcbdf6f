use Rattle.std.proofs.Common.{◌+◌, ◌*◌}
use Rattle.nesl_eval_plain.proofs.plain.+plainness.Given as goal

abbrev pub decreases-is_plain_part : goal.decreases-is_plain_part
decreases-is_plain_part g l = l.levels * 4

abbrev pub decreases-is_plain_form : goal.decreases-is_plain_form
decreases-is_plain_form g l = l.levels * 4 + 2

abbrev pub decreases-is_plain_function : goal.decreases-is_plain_function
decreases-is_plain_function g l = l.levels * 4 + 1

abbrev pub decreases-are_plain : goal.decreases-are_plain
decreases-are_plain g l = l.levels * 4 + 1
