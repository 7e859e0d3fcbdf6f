use Rattle.nesl_eval_machine.proofs.Columned.{advances_then}
use Rattle.nesl_eval_machine.specs.State.{env_of}
use Rattle.nesl_eval_machine.proofs.state.Machine.take_new_rounds.Goals as goal

pub returns-clause-took : goal.returns-clause-took
returns-clause-took g c =
    let t = g.T.Tops.table c.args.tops.now in
    let m = c.args.self.now in
    let one = c.in_ok-take_new_filter.ensures in
    advances_then t m c.take_new_filter.new.self c.take_new_body.new.self (tt {0}) c.take_new_body.result c.args.round.now.value c.take_new_filter.new.round.value c.go_to_body.new.round.value c.take_new_body.new.round.value one.meter one.took
    (λ b st. c.in_ok-go_to_body.ensures t m.levels b (env_of m) st) c.take_new_body.ensures.took
