use Rattle.std.proofs.Common.{refl, inl, inr}
use Rattle.std.proofs.lemmas.Result.{err_from_is_err_and}
use Rattle.nesl_eval_ops.specs.View.{block_of}
use Rattle.nesl_eval_machine.proofs.Stepping.{steps_stuck, steps_from, steps_after}
use Rattle.nesl_eval_machine.proofs.state.Machine.end_any_turn.Goals as goal

pub returns-in_err-give_turn : goal.returns-in_err-give_turn
returns-in_err-give_turn g c = λ before height is fits.
    let t = g.T.Tops.table c.args.tops.now in
    let p = err_from_is_err_and c.from_residual.result c.from_residual.ensures.1 in
    rw (p.1, p.2) (c.in_err-give_turn.ensures t before _ is refl refl refl refl fits)

pub returns : goal.returns
returns g c = λ before height is fits.
    let t = g.T.Tops.table c.args.tops.now in
    let m = record c.args.self.now { frames = before } in
    let n = c.go_on_after_turn.new.self in
    elim (c.in_ok-give_turn.ensures t before _ is refl refl refl refl fits) [
      | inl e ↦ steps_stuck t m n (block_of n.code.now) c.go_on_after_turn.result _ e
      | inr e ↦ steps_from t m n (block_of n.code.now) c.go_on_after_turn.result _ _ e.same
          (steps_after t m c.give_turn.new.self n (block_of n.code.now) c.go_on_after_turn.result e.work _ e.spent (c.go_on_after_turn.ensures e.fits))
    ]
