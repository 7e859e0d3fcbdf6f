use Rattle.std.proofs.Common.{◌≡◌, refl, ap, ◌∙◌, inr, arith, [], ◌∷◌, ◌-◌, suc, drop, Some, ◌++◌}
use Rattle.std.proofs.lemmas.Result.{err_from_is_err_and}
use Rattle.nesl_values.specs.View.{tree_of}
use Rattle.nesl_eval_meaning.specs.Names.{Value}
use Rattle.nesl_eval_meaning.specs.Out.{Out, after_cost, and_then, at_call}
use Rattle.nesl_eval_code.specs.Frames.{frame}
use Rattle.nesl_eval_code.specs.Run.{run}
use Rattle.nesl_eval_code.specs.Exec.{exec}
use Rattle.nesl_eval_code.specs.Flat.{block}
use Rattle.nesl_eval_ops.specs.View.{block_of}
use Rattle.nesl_eval_machine.specs.State.{places_of, frames_of, slots_of, env_of, local_of}
use Rattle.nesl_eval_machine.proofs.Stepping.{memory_any, one_longer}
use Rattle.nesl_eval_rounds.proofs.Rows.{places_more}
use Rattle.nesl_eval_machine.proofs.Entering.{entered_block}
use Rattle.nesl_eval_machine.proofs.Calling.{called_same, argument_alone}
use Rattle.nesl_eval_machine.proofs.state.Machine.enter_body.Goals as goal

pub returns-clause-steps : goal.returns-clause-steps
returns-clause-steps g c = λ t code there fits.
    let m = c.args.self.now in
    let x = tree_of c.args.argument in
    let o = c.in-Some.body.now in
    let n = m.levels - suc c.args.node.height in
    let len = c.len-len.result in
    let levels = c.saturating_sub-self.result in
    let slots = c.push_value.new.values in
    let k : Value → Out Value = λ v. exec t m.levels (env_of m) (block_of c.args.next.now) (v ∷ local_of m) in
    let same : block_of o ≡ block (1 ∷ []) code = fits.0 c.args.place o code c.in-Some.ensures there in
    let fewer : levels ≡ n = omega (arith, c.saturating_sub.ensures, c.saturating_sub-self.ensures) in
    let env : drop len (places_of slots.items) ≡ Some x ∷ [] =
    argument_alone m.slots.items slots.items c.args.argument len c.in_ok-push_value.ensures (omega (arith, c.len-len.ensures, m.slots.ok.0)) in
    let grown : places_of slots.items ≡ slots_of m ++ Some x ∷ [] = ap places_of c.in_ok-push_value.ensures ∙ places_more m.slots.items (c.args.argument ∷ []) in
    let longer = one_longer m.slots.items slots.items c.args.argument c.in_ok-push_value.ensures in
    inr (entered_block t m _ c.keep_frame.new.frames (block_of o) slots (Some x ∷ []) len levels m.meter
    (after_cost 0 m.meter.depth (and_then (at_call c.args.node.span (run n t (frame (x ∷ []) ∷ []) code)) k))
    c.in_ok-keep_frame.ensures (omega (arith, c.len-len.ensures, m.slots.ok.0)) (omega (arith, c.len.ensures, m.stack.ok.0)) fits.2 grown
    (omega (arith, c.len-len.ensures, m.slots.ok.0, longer)) refl fits
    (called_same t n c.args.node.span code x m.meter.depth k _
    (ap (λ e. exec t levels e (block_of o) []) env ∙ ap (λ l. exec t l (Some x ∷ []) (block_of o) []) fewer ∙ ap (λ b. exec t n (Some x ∷ []) b []) same)))

pub returns-in_err-keep_frame-clause-steps : goal.returns-in_err-keep_frame-clause-steps
returns-in_err-keep_frame-clause-steps g c = λ t code there fits.
    let m = c.args.self.now in
    let p = err_from_is_err_and c.from_residual.result c.from_residual.ensures.1 in
    rw (p.1, p.2, c.in_err-keep_frame.ensures) (memory_any (frames_of (record m { frames = c.keep_frame.new.frames })) m.meter.fuel m.meter.fuel _)

pub returns-in_err-push_value-clause-steps : goal.returns-in_err-push_value-clause-steps
returns-in_err-push_value-clause-steps g c = λ t code there fits.
    let m = c.args.self.now in
    let p = err_from_is_err_and c.from_residual-in_err-push_value.result c.from_residual-in_err-push_value.ensures.1 in
    rw (p.1, p.2, c.in_err-push_value.ensures) (memory_any (frames_of (record m { frames = c.keep_frame.new.frames })) m.meter.fuel m.meter.fuel _)
