use Rattle.std.proofs.Common.{◌≡◌, ◌⊎◌}
use Rattle.nesl_eval_meaning.specs.Out.{stuck}
use Rattle.nesl_eval_machine.specs.State.{Fits, left, left_at_hand}
use Rattle.nesl_eval_rounds.specs.Leads.{Leads}
use Rattle.nesl_eval_machine.proofs.state.Machine.run.Given as goal

abbrev pub invariant-loop : goal.invariant-loop
invariant-loop g l =
    let t = g.T.Tops.table l.tops in
    Fits t l.fn.self → (left t l.fn.self ≡ stuck) ⊎ Leads l.fn.self.meter.fuel l.self.meter.fuel (left t l.fn.self) (left_at_hand t l.self l.hand) (Fits t l.self)
