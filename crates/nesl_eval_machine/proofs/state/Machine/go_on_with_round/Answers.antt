use Rattle.std.proofs.Common.{sym, ap, ◌∙◌}
use Rattle.std.specs.Prelude.{slice_get}
use Rattle.nesl_eval_rounds.specs.Rounds.{chosen_places}
use Rattle.nesl_eval_machine.proofs.state.Machine.go_on_with_round.Goals as goal

pub returns-in-Some : goal.returns-in-Some
returns-in-Some g c = λ t fits.
    c.begin_turn.ensures t fits (ap (λ x. slice_get (chosen_places x.chosen) c.args.round.value.turns) (sym c.deref.ensures) ∙ ap (λ x. slice_get (chosen_places c.deref.result.now.chosen) x.turns) (sym c.deref-2.ensures) ∙ sym c.at.ensures ∙ c.in-Some.is)

pub returns-in-None : goal.returns-in-None
returns-in-None g c = λ t fits.
    c.end_round.ensures t fits (ap (λ x. slice_get (chosen_places x.chosen) c.args.round.value.turns) (sym c.deref.ensures) ∙ ap (λ x. slice_get (chosen_places c.deref.result.now.chosen) x.turns) (sym c.deref-2.ensures) ∙ sym c.at.ensures ∙ c.in-None.is)
