use Rattle.std.proofs.Common.{Ok, sym, subst}
use Rattle.nesl_eval_machine.specs.declared.state.Hand.TheVariants.{Done}
use Rattle.nesl_eval_machine.specs.State.{left_at_hand}
use Rattle.nesl_eval_machine.specs.Steps.{Moves}
use Rattle.nesl_eval_machine.proofs.Hands.{done_moves}
use Rattle.nesl_eval_machine.proofs.state.Machine.go_on.Goals as goal

pub returns-in-Empty : goal.returns-in-Empty
returns-in-Empty g c = λ fits.
    let t = g.T.Tops.table c.args.tops.now in
    let m = c.args.self.now in
    subst (λ h. Moves t m c.operate.result c.operate.new.self (left_at_hand t m h)) (sym c.in-Empty.is) (c.operate.ensures fits)

pub returns-in-Holds : goal.returns-in-Holds
returns-in-Holds g c = λ fits.
    let t = g.T.Tops.table c.args.tops.now in
    let m = c.args.self.now in
    subst (λ h. Moves t m c.take.result c.take.new.self (left_at_hand t m h)) (sym c.in-Holds.is) (c.take.ensures fits)

pub returns-in-Done : goal.returns-in-Done
returns-in-Done g c = λ fits.
    let t = g.T.Tops.table c.args.tops.now in
    let m = c.args.self.now in
    subst (λ h. Moves t m (Ok (Done c.in-Done.value)) m (left_at_hand t m h)) (sym c.in-Done.is) (done_moves t m c.in-Done.value fits)
