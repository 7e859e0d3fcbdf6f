use Rattle.std.proofs.Common.{inl, inr}
use Rattle.std.proofs.lemmas.Result.{err_from_is_err_and}
use Rattle.nesl_eval_ops.specs.View.{block_of}
use Rattle.nesl_eval_machine.proofs.Stepping.{steps_stuck, steps_from}
use Rattle.nesl_eval_machine.proofs.state.Machine.begin.Goals as goal

pub returns-in_err-round : goal.returns-in_err-round
returns-in_err-round g c = λ fits.
    let t = g.T.Tops.table c.args.tops.now in
    let p = err_from_is_err_and c.from_residual.result c.from_residual.ensures.1 in
    rw (p.1, p.2) (c.in_err-round.ensures t (block_of c.args.next.now))

pub returns : goal.returns
returns g c = λ fits.
    let t = g.T.Tops.table c.args.tops.now in
    let m = c.args.self.now in
    let n = c.go_round.new.self in
    elim (c.in_ok-round.ensures t (block_of c.args.next.now)) [
      | inl e ↦ steps_stuck t m n (block_of n.code.now) c.go_round.result _ e
      | inr e ↦ steps_from t m n (block_of n.code.now) c.go_round.result _ _ e (c.go_round.ensures fits)
    ]
