use Rattle.std.proofs.Common.{◌≡◌, None, refl, sym, ap, ◌∙◌, inr, ◌∷◌, ◌+◌}
use Rattle.std.proofs.lemmas.Result.{err_from_is_err_and}
use Rattle.nesl_values.specs.Tree.{sequence}
use Rattle.nesl_values.specs.View.{tree_of}
use Rattle.nesl_values_builder.specs.Elements.{elements_of}
use Rattle.nesl_eval_meaning.specs.Out.{after_cost}
use Rattle.nesl_eval_code.specs.Exec.{exec}
use Rattle.nesl_eval_ops.specs.View.{block_of}
use Rattle.nesl_eval_rounds.specs.Rounds.{between}
use Rattle.nesl_eval_machine.specs.State.{env_of, local_of, frames_of}
use Rattle.nesl_eval_machine.proofs.Stepping.{memory_any}
use Rattle.nesl_eval_rounds.proofs.Gathering.{round_done, none_there}
use Rattle.nesl_eval_machine.proofs.Turns.{put_on}
use Rattle.nesl_eval_machine.proofs.state.Machine.end_round.Goals as goal

pub returns : goal.returns
returns g c = λ t fits none_left.
    let m = c.args.self.now in
    let r = c.args.round.value in
    let w = c.into_inner-start.result in
    let same : w ≡ r = c.into_inner-start.ensures in
    let b = block_of c.args.next.now in
    let d : c.in_ok-depth.depth ≡ r.start + r.most = c.in_ok-depth.ensures.0 ∙ ap (λ x. x.start + x.most) same in
    let v : tree_of c.in_ok-value.value ≡ sequence (elements_of r.values) = c.in_ok-value.ensures ∙ ap (λ x. sequence (elements_of x.values)) same in
    let none : r.body ≡ None = ap (λ x. x.body) (sym same) ∙ none_there w.body (sym c.is_some.ensures ∙ c.if-is_some.false) in
    rw (c.set_depth.ensures, c.restart.ensures) (inr (put_on t m b c.keep.new.values (record { fuel = m.meter.fuel; depth = c.in_ok-depth.depth }) c.in_ok-value.value
    (between t m.levels b (env_of m) (local_of m) r) c.in_ok-keep.ensures refl fits
    (round_done t m.levels b (env_of m) (local_of m) r c.in_ok-depth.depth none none_left d
    ∙ ap (λ x. after_cost 0 c.in_ok-depth.depth (exec t m.levels (env_of m) b (x ∷ local_of m))) (sym v))))

pub returns-then-is_some : goal.returns-then-is_some
returns-then-is_some g c = λ t fits none_left.
    let m = c.args.self.now in
    memory_any (frames_of m) m.meter.fuel c.restart.new.self.fuel _

pub returns-in_err-depth : goal.returns-in_err-depth
returns-in_err-depth g c = λ t fits none_left.
    let m = c.args.self.now in
    let p = err_from_is_err_and c.from_residual.result c.from_residual.ensures.1 in
    rw (p.1, p.2, c.in_err-depth.ensures) (memory_any (frames_of m) m.meter.fuel c.restart.new.self.fuel _)

pub returns-in_err-value : goal.returns-in_err-value
returns-in_err-value g c = λ t fits none_left.
    let m = c.args.self.now in
    let p = err_from_is_err_and c.from_residual-in_err-value.result c.from_residual-in_err-value.ensures.1 in
    rw (p.1, p.2, c.in_err-value.ensures) (memory_any (frames_of m) m.meter.fuel c.restart.new.self.fuel _)

pub returns-in_err-keep : goal.returns-in_err-keep
returns-in_err-keep g c = λ t fits none_left.
    let m = c.args.self.now in
    let p = err_from_is_err_and c.from_residual-in_err-keep.result c.from_residual-in_err-keep.ensures.1 in
    rw (p.1, p.2, c.in_err-keep.ensures) (memory_any (frames_of m) m.meter.fuel c.restart.new.self.fuel _)
