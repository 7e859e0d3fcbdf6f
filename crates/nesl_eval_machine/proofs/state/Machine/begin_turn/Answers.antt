use Rattle.std.proofs.Common.{◌≡◌, refl, sym, ap, ◌∙◌, inr, arith, ◌++◌, ◌+◌, [], map, drop, length}
use Rattle.std.proofs.lemmas.List.{drop-append-le}
use Rattle.std.proofs.lemmas.Result.{err_from_is_err_and}
use Rattle.std.proofs.Math.ListN.{length-append}
use Rattle.nesl_values.specs.View.{tree_of}
use Rattle.nesl_eval_code.specs.Frames.{row}
use Rattle.nesl_eval_code.specs.Exec.{Places, exec}
use Rattle.nesl_eval_ops.specs.View.{block_of, body_block}
use Rattle.nesl_eval_rounds.specs.Rounds.{between}
use Rattle.nesl_eval_machine.specs.State.{places_of, slots_of, env_of, local_of, frames_of}
use Rattle.nesl_eval_rounds.proofs.Laws.{after_none}
use Rattle.nesl_eval_machine.proofs.Stepping.{memory_any}
use Rattle.nesl_eval_machine.proofs.Entering.{entered_block, places_long}
use Rattle.nesl_eval_rounds.proofs.Gathering.{turn_next}
use Rattle.nesl_eval_machine.proofs.state.Machine.begin_turn.Goals as goal

pub returns-in_err-push_row : goal.returns-in_err-push_row
returns-in_err-push_row g c = λ t fits there.
    let m = c.args.self.now in
    let p = err_from_is_err_and c.from_residual.result c.from_residual.ensures.1 in
    rw (p.1, p.2, c.in_err-push_row.ensures) (memory_any (frames_of m) m.meter.fuel c.restart.new.self.fuel _)

pub returns-in_err-keep_frame : goal.returns-in_err-keep_frame
returns-in_err-keep_frame g c = λ t fits there.
    let m = c.args.self.now in
    let p = err_from_is_err_and c.from_residual-in_err-keep_frame.result c.from_residual-in_err-keep_frame.ensures.1 in
    rw (p.1, p.2, c.in_err-keep_frame.ensures) (memory_any (frames_of (record m { frames = c.keep_frame.new.frames })) m.meter.fuel c.restart.new.self.fuel _)

pub returns : goal.returns
returns g c = λ t fits there.
    let m = c.args.self.now in
    let r = c.args.round.value in
    let b = block_of c.args.next.now in
    let vs = map tree_of r.sources.items in
    let more : Places = row c.args.place vs in
    let slots = c.push_row.new.slots in
    let long = places_long m.slots.items in
    let grown : places_of slots.items ≡ slots_of m ++ more = c.in_ok-push_row.ensures ∙ ap (λ xs. slots_of m ++ row c.args.place (map tree_of xs)) (c.deref-2.ensures.value ∙ ap (λ x. x.sources.items) (c.deref.ensures ∙ c.put_at.ensures)) in
    let env : drop m.base (places_of slots.items) ≡ env_of m ++ more = ap (drop m.base) grown ∙ drop-append-le m.base (slots_of m) more (omega (arith, fits.2)) in
    let longer : length slots.items ≡ length m.slots.items + length more = sym (places_long slots.items) ∙ ap length grown ∙ length-append (slots_of m) more ∙ ap (λ k. k + length more) long in
    let w = c.deref-3.result.now in
    let same : w ≡ _ = c.deref-3.ensures ∙ c.put_at.ensures in
    let code = block_of c.ops-code.result.now in
    rw c.restart.ensures (inr (entered_block t m _ c.keep_frame.new.frames code slots more m.base m.levels (record { fuel = m.meter.fuel; depth = 0 })
    (between t m.levels b (env_of m) (local_of m) r)
    c.in_ok-keep_frame.ensures (omega (arith, c.len-len.ensures, m.slots.ok.0)) (omega (arith, c.len.ensures, m.stack.ok.0)) fits.2 grown (omega (arith, fits.2, longer)) refl fits
    (turn_next t m.levels b (env_of m) (local_of m) r c.put_at.new.round.value c.args.place _ there c.put_at.ensures
    (after_none (exec t m.levels (drop m.base (places_of slots.items)) code []) ∙ ap (λ e. exec t m.levels e code []) env
    ∙ ap (λ b. exec t m.levels (env_of m ++ more) b []) c.ops-code.ensures
    ∙ ap (λ x. exec t m.levels (env_of m ++ more) (body_block x.block.now) []) same))))
