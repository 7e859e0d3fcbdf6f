use Rattle.std.proofs.Common.{◌≡◌, ◌++◌}
use Rattle.nesl_values.specs.View.{tree_of}
use Rattle.nesl_reply.specs.Values.{datatypes, value_text}
use Rattle.nesl_reply.specs.Tasks.{tasks_text, tasks_work}
use Rattle.nesl_reply.proofs.value.write_by_tasks.Given as goal

abbrev pub invariant-loop-task : goal.invariant-loop-task
invariant-loop-task g l = l.out.items ++ tasks_text (datatypes l.context) l.tasks.items ≡ l.fn.out.items ++ value_text (datatypes l.context) l.brackets l.ty (tree_of l.value)

abbrev pub decreases-loop-task : goal.decreases-loop-task
decreases-loop-task g l = tasks_work l.tasks.items
