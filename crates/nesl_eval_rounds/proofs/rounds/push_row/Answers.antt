use Rattle.std.proofs.Common.{map}
use Rattle.nesl_values.specs.View.{tree_of}
use Rattle.nesl_eval_code.specs.Frames.{row}
use Rattle.nesl_eval_rounds.proofs.Rows.{row_next}
use Rattle.nesl_eval_rounds.proofs.rounds.push_row.Goals as goal

pub loop-index-preserved : goal.loop-index-preserved
loop-index-preserved g c =
    row_next c.args.slots.now.items c.loop-index.slots.items c.keep.new.values.items c.in_ok-value.value (row c.args.place (map tree_of c.args.sources.now)) c.loop-index.index
    c.in_ok-value.ensures c.loop-index.invariant c.in_ok-keep.ensures
