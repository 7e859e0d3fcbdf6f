use Rattle.std.proofs.Common.{refl, inr}
use Rattle.nesl_cost_eval.specs.Writes.{Book, book}
use Rattle.nesl_cost_eval.proofs.Charging.{spent_adds}
use Rattle.nesl_cost_eval.proofs.run.Run.spend.Goals as goal

pub returns-in-Ok : goal.returns-in-Ok
returns-in-Ok c =
    let a = book c.args.self.now in
    let m : Book = record { notes = a.notes; fuel = c.charge.new.self.fuel } in
    spent_adds c.note_spent.result c.args.span c.args.work a m (book c.note_spent.new.self) refl c.in-Ok.ensures.0 c.note_spent.ensures

pub returns-in-Err : goal.returns-in-Err
returns-in-Err c = inr (refl, c.in-Err.ensures.2)
