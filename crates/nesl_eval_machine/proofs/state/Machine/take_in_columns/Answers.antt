use Rattle.std.proofs.Common.{subst}
use Rattle.nesl_eval_machine.specs.Steps.{Advances}
use Rattle.nesl_eval_machine.proofs.Columned.{machine_took}
use Rattle.nesl_eval_machine.proofs.state.Machine.take_in_columns.Goals as goal

pub returns-clause-took : goal.returns-clause-took
returns-clause-took g c =
    let t = g.T.Tops.table c.args.tops.now in
    let m = c.args.self.now in
    let done = c.take_in_columns-done in
    let N = record m { meter = record m.meter { fuel = done.new.fuel } } in
    rw c.leave.ensures (subst (λ f. Advances t (record m { meter = record m.meter { fuel = f } }) done.result N c.args.round.now.value done.new.round) c.fuel-fuel.ensures
    (machine_took t (record m { meter = record m.meter { fuel = c.fuel-fuel.result } }) N done.result c.deref.result.now _ c.args.round.now.value done.new.round c.deref.ensures.value c.deref_mut.ensures.value (λ b st. done.ensures.took b st)))
