use Rattle.nesl_eval_machine.proofs.state.Machine.end_turns.Goals as goal

pub returns-in-Some : goal.returns-in-Some
returns-in-Some g c = λ fits none_left. c.go_round_apart.ensures fits

pub returns-in-None : goal.returns-in-None
returns-in-None g c = λ fits none_left. c.end_round.ensures (g.T.Tops.table c.args.tops.now) fits none_left
