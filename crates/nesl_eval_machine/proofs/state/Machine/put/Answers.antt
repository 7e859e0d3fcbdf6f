use Rattle.std.proofs.Common.{subst, ◌∷◌}
use Rattle.std.proofs.lemmas.Result.{err_from_is_err_and}
use Rattle.nesl_eval_code.specs.Exec.{exec}
use Rattle.nesl_eval_nodes.specs.Meets.{Meets, Is}
use Rattle.nesl_eval_machine.specs.State.{env_of, local_of}
use Rattle.nesl_eval_machine.proofs.Stepping.{run_stops, kept_steps}
use Rattle.nesl_eval_machine.proofs.state.Machine.put.Goals as goal

pub returns-in_err-value-clause-steps : goal.returns-in_err-value-clause-steps
returns-in_err-value-clause-steps g c = λ t b o before meets fits.
    let m = record c.args.self.now { meter = before } in
    let I = Is {A = g.row.A.Denot} in
    let p = err_from_is_err_and c.from_residual.result c.from_residual.ensures.1 in
    let meets' = subst (λ r. Meets I before r c.args.self.now.meter o) c.in_err-value.was meets in
    rw (p.1, p.2) (run_stops I t m c.in_err-value.field-0.0 c.args.self.now.meter o (λ x. exec t m.levels (env_of m) b (x ∷ local_of m)) meets')

pub returns-clause-steps : goal.returns-clause-steps
returns-clause-steps g c = λ t b o before meets fits.
    let m = record c.args.self.now { meter = before } in
    let I = Is {A = g.row.A.Denot} in
    kept_steps t m b c.push_value.new.values c.args.self.now.meter c.in_ok-value.value o c.push_value.result c.push_value.ensures
    (subst (λ r. Meets I before r c.args.self.now.meter o) c.in_ok-value.was meets) fits
