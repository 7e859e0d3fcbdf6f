use Rattle.std.proofs.Common.{sym, ap, ◌∙◌}
use Rattle.nesl_eval_code.specs.Run.{slot_at}
use Rattle.nesl_eval_nodes.specs.Holds.{held_slot}
use Rattle.nesl_eval_column_results.proofs.Finding.{function_there}
use Rattle.nesl_eval_column_results.proofs.names.function_at.Goals as goal

pub returns-in-Ok-Function : goal.returns-in-Ok-Function
returns-in-Ok-Function g c =
    function_there (slot_at (g.T.Tops.table c.args.block.now.tops.now) c.args.place) c.in-Ok-Function.body.now (ap held_slot (sym c.in-Ok-Function.field-0-is) ∙ c.in-Ok-Function.ensures)
