use Rattle.std.proofs.Common.{◌∙◌, ap}
use Rattle.nesl_cost_rows.specs.Written.{turned}
use Rattle.nesl_cost_eval.specs.Writes.{Book, book, noted}
use Rattle.nesl_cost_eval.proofs.Charging.{closed_more}
use Rattle.nesl_cost_eval.proofs.run.Run.close.Goals as goal

pub loop-turn-preserved : goal.loop-turn-preserved
loop-turn-preserved c =
    c.in_ok-note.ensures ∙ ap (λ (b : Book). noted turned b) c.loop-turn.invariant ∙ closed_more c.loop-turn._turn (book c.args.self.now)
