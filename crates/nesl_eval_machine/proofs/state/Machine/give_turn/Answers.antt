use Rattle.std.proofs.Common.{refl, sym, ap, ◌∙◌, inl, inr, subst, drop, take, ◌≤◌, length}
use Rattle.std.proofs.lemmas.Result.{err_from_is_err_and}
use Rattle.nesl_values.specs.View.{tree_of}
use Rattle.nesl_eval_meaning.specs.Out.{value}
use Rattle.nesl_eval_ops.specs.View.{block_of}
use Rattle.nesl_eval_rounds.specs.Rounds.{in_turn}
use Rattle.nesl_eval_machine.specs.State.{places_of, frames_of, stack_of, local_of, unwound}
use Rattle.nesl_eval_machine.specs.Steps.{Stops}
use Rattle.nesl_eval_machine.proofs.Unwinding.{unwound_after}
use Rattle.nesl_eval_machine.proofs.Turns.{turn_ended, gave_stops}
use Rattle.nesl_eval_machine.proofs.state.Machine.give_turn.Goals as goal

pub returns : goal.returns
returns g c = λ t before f is base len levels purpose fits.
    let m = c.args.self.now in
    let fs = frames_of m in
    let sl = c.cut.new.values in
    let st = stack_of m in
    let low = local_of m in
    let b = block_of f.next.now in
    let v = c.args.value in
    let cut = c.cut.ensures ∙ ap (λ k. take k m.slots.items) (sym len) in
    let gave = c.in_ok-gather.ensures.gave t c.args.levels b (drop c.args.base (places_of sl.items)) low in
    elim (turn_ended t m f before c.args.round.now sl.items v is fits purpose cut) [
      | inl e ↦ inl e
      | inr e ↦ inr (record {
        work = gave.work;
        spent = gave.spent;
        same =
            e.left
            ∙ ap (λ n. unwound t fs (places_of sl.items) st (in_turn t n b (drop f.base (places_of sl.items)) low c.args.round.now.value (value (tree_of v) 0 m.meter.depth))) levels
            ∙ ap (λ k. unwound t fs (places_of sl.items) st (in_turn t c.args.levels b (drop k (places_of sl.items)) low c.args.round.now.value (value (tree_of v) 0 m.meter.depth))) base
            ∙ ap (unwound t fs (places_of sl.items) st) gave.same ∙ unwound_after t fs (places_of sl.items) st gave.work _;
        fits = (fits.0, e.ordered, subst (λ k. k ≤ length sl.items) base e.base);
      })
    ]

pub returns-in_err-gather : goal.returns-in_err-gather
returns-in_err-gather g c = λ t before f is base len levels purpose fits.
    let m = c.args.self.now in
    let fs = frames_of m in
    let sl = take f.len m.slots.items in
    let b = block_of f.next.now in
    let x = c.in_err-gather.field-0.0 in
    let gave = c.in_err-gather.ensures.gave t f.levels b (drop f.base (places_of sl)) (local_of m) in
    let p = err_from_is_err_and c.from_residual.result c.from_residual.ensures.1 in
    rw (p.1, p.2) (elim (turn_ended t m f before c.args.round.now sl c.args.value is fits purpose refl) [
      | inl e ↦ subst (Stops fs m.meter.fuel x c.gather.new.meter.fuel) (sym e) tt
      | inr e ↦ subst (Stops fs m.meter.fuel x c.gather.new.meter.fuel) (sym e.left) (gave_stops (Unit {0}) t fs (places_of sl) (stack_of m) x m.meter.fuel c.gather.new.meter.fuel _ _ gave)
    ])
