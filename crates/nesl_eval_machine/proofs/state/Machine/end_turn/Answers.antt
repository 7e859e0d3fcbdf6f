use Rattle.nesl_eval_machine.proofs.state.Machine.end_turn.Goals as goal

pub returns : goal.returns
returns g c = λ before height is fits. c.end_any_turn.ensures before height is fits
