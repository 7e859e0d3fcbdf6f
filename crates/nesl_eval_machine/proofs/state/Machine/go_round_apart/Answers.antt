use Rattle.std.proofs.Common.{subst, Ok}
use Rattle.std.proofs.lemmas.Result.{err_from_is_err_and}
use Rattle.nesl_eval_nodes.specs.Measures.{Measure}
use Rattle.nesl_eval_ops.specs.View.{block_of}
use Rattle.nesl_eval_machine.specs.State.{frames_of}
use Rattle.nesl_eval_machine.proofs.Stepping.{memory_any}
use Rattle.nesl_eval_machine.specs.Steps.{Advances}
use Rattle.nesl_eval_machine.proofs.Columned.{advanced}
use Rattle.nesl_eval_machine.proofs.state.Machine.go_round_apart.Goals as goal

pub returns : goal.returns
returns g c = λ fits.
    let t = g.T.Tops.table c.args.tops.now in
    let m = record c.args.self.now { meter = record c.args.self.now.meter { depth = 0 } } in
    let n = c.go_on_with_round.new.self in
    let taken = c.in_ok-take_new_rounds.ensures in
    let took = subst (λ (x : Measure). Advances t (record c.args.self.now { meter = x }) (Ok (tt {0})) c.take_new_rounds.new.self c.args.round.value c.take_new_rounds.new.round.value) c.restart.ensures taken.took in
    advanced t m c.take_new_rounds.new.self n (block_of c.args.next.now) (block_of n.code.now) c.args.round.value c.take_new_rounds.new.round.value (tt {0}) c.go_on_with_round.result
    taken.meter took fits (λ h. c.go_on_with_round.ensures t h)

pub returns-in_err-take_new_rounds : goal.returns-in_err-take_new_rounds
returns-in_err-take_new_rounds g c = λ fits.
    let m = c.args.self.now in
    let n = c.take_new_rounds.new.self in
    let p = err_from_is_err_and c.from_residual.result c.from_residual.ensures.1 in
    rw (p.1, p.2, c.in_err-take_new_rounds.ensures.took) (memory_any (frames_of n) m.meter.fuel n.meter.fuel _)
