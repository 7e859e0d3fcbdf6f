use Rattle.std.proofs.Common.{refl}
use Rattle.std.proofs.lemmas.Result.{err_from_is_err_and}
use Rattle.nesl_eval_code.specs.Exec.{exec, admitted}
use Rattle.nesl_eval_ops.specs.View.{block_of}
use Rattle.nesl_eval_rounds.specs.Slots.{Anything}
use Rattle.nesl_eval_machine.specs.State.{env_of, local_of}
use Rattle.nesl_eval_machine.proofs.Stepping.{run_goes, run_stops}
use Rattle.nesl_eval_machine.proofs.state.Machine.enter.Goals as goal

pub returns-in_err-enter_at : goal.returns-in_err-enter_at
returns-in_err-enter_at g c = λ t fits.
    let m = c.args.self.now in
    let p = err_from_is_err_and c.from_residual.result c.from_residual.ensures.1 in
    rw (p.1, p.2) (run_stops {R = Unit {0}} {X = Unit {0}} Anything t m c.in_err-enter_at.field-0.0 c.enter_at.new.meter (admitted m.levels c.args.height c.args.span) (λ x. exec t m.levels (env_of m) (block_of c.args.next.now) (local_of m)) c.in_err-enter_at.ensures.meets)

pub returns : goal.returns
returns g c = λ t fits.
    let m = c.args.self.now in
    let n = record m { code = c.args.next; meter = c.enter_at.new.meter } in
    run_goes Anything t m n (block_of c.args.next.now) c.in_ok-enter_at.field-0 (admitted m.levels c.args.height c.args.span) (λ x. exec t m.levels (env_of m) (block_of c.args.next.now) (local_of m)) c.in_ok-enter_at.ensures.meets
    fits (λ x e. refl)
