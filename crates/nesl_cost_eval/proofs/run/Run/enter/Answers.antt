use Rattle.std.proofs.Common.{refl, inr}
use Rattle.nesl_cost_eval.specs.Writes.{Book, book}
use Rattle.nesl_cost_eval.proofs.Charging.{entered_adds}
use Rattle.nesl_cost_eval.proofs.run.Run.enter.Goals as goal

pub returns-in-Ok : goal.returns-in-Ok
returns-in-Ok c =
    let a = book c.args.self.now in
    let m : Book = record { notes = a.notes; fuel = c.charge_deep.new.self.fuel } in
    entered_adds c.note.result c.args.span a m (book c.note.new.self) refl c.in-Ok.ensures.0 c.note.ensures

pub returns-in-Err : goal.returns-in-Err
returns-in-Err c = inr (refl, c.in-Err.ensures.2)
