use Rattle.std.proofs.Common.{ap, ◌∙◌, sym}
use Rattle.std.specs.Prelude.{slice_get}
use Rattle.nesl_eval_rounds.specs.Rounds.{chosen_places}
use Rattle.nesl_eval_machine.proofs.state.Machine.go_round.Goals as goal

pub returns-in-Some : goal.returns-in-Some
returns-in-Some g c = λ fits.
    let t = g.T.Tops.table c.args.tops.now in
    c.begin_turn.ensures t fits (ap (λ x. slice_get (chosen_places x.chosen) x.turns) (sym c.deref.ensures) ∙ c.in-Some.ensures)

pub returns-in-None : goal.returns-in-None
returns-in-None g c = λ fits. c.go_round_apart.ensures fits
