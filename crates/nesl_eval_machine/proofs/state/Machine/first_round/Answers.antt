use Rattle.std.proofs.Common.{◌≡◌, ℕ, refl, sym, ap, ◌∙◌, inl, inr, subst, map, List, ◌∷◌, Ok, Err, Box}
use Rattle.nesl_eval_rounds.specs.declared.state.Chosen.TheVariants.{All}
use Rattle.nesl_eval_rounds.specs.declared.state.Round.{Round}
use Rattle.std.specs.List.{range_with_len}
use Rattle.std.specs.Prelude.{MatchResult}
use Rattle.std.proofs.lemmas.Result.{err_from_is_err_and}
use Rattle.nesl_values.specs.View.{tree_of}
use Rattle.nesl_eval_meaning.specs.Names.{Value}
use Rattle.nesl_eval_meaning.specs.Out.{Out, and_then, given}
use Rattle.nesl_eval_meaning.specs.Outcome.{lengths, common_places}
use Rattle.nesl_eval_code.specs.Exec.{exec, at_places}
use Rattle.nesl_eval_ops.specs.View.{body_block}
use Rattle.nesl_eval_nodes.specs.Meets.{Meets}
use Rattle.nesl_eval_nodes.specs.declared.meter.Stop.TheVariants.{Memory}
use Rattle.nesl_eval_rounds.specs.Rounds.{between}
use Rattle.nesl_eval_machine.specs.State.{in_rounds, frames_of, slots_of, stack_of, env_of, local_of, left_with, unwound}
use Rattle.nesl_eval_machine.specs.Steps.{Stops}
use Rattle.nesl_eval_machine.proofs.Stepping.{run_stops}
use Rattle.nesl_eval_machine.proofs.Turns.{places_first, found_first, first_between, boxed_round}
use Rattle.nesl_eval_machine.proofs.state.Machine.first_round.Goals as goal

pub returns-in_err-count : goal.returns-in_err-count
returns-in_err-count g c = λ t next.
    let m = c.args.self.now in
    let vs = map tree_of c.args.sources.items in
    let s = c.args.span in
    let R = in_rounds t m.levels (env_of m) vs (body_block c.args.block.now) c.args.body in
    let K : Value → Out Value = λ v. exec t m.levels (env_of m) next (v ∷ local_of m) in
    let P = given (lengths vs) (common_places s) in
    let T : ℕ → List ℕ → Type 0 = λ k is. range_with_len 0 k ≡ is in
    let found = subst (λ xs. Meets T m.meter (Err c.in_err-count.field-0.0) m.meter (given (lengths (map tree_of xs)) (common_places s))) c.deref.ensures.value (c.in_err-count.ensures m.meter) in
    let p = err_from_is_err_and c.from_residual.result c.from_residual.ensures.1 in
    rw (p.1, p.2) (subst (Stops (frames_of m) m.meter.fuel c.in_err-count.field-0.0 m.meter.fuel) (ap (left_with t m) (sym (places_first s vs R K)))
    (run_stops T t m c.in_err-count.field-0.0 m.meter P (λ is. and_then (R is) K) found))

pub returns : goal.returns
returns g c = λ t next.
    let m = c.args.self.now in
    let vs = map tree_of c.args.sources.items in
    let s = c.args.span in
    let R = in_rounds t m.levels (env_of m) vs (body_block c.args.block.now) c.args.body in
    let K : Value → Out Value = λ v. exec t m.levels (env_of m) next (v ∷ local_of m) in
    let P = given (lengths vs) (common_places s) in
    let T : ℕ → List ℕ → Type 0 = λ k is. range_with_len 0 k ≡ is in
    let found : Meets T m.meter (Ok c.in_ok-count.count) m.meter P =
    subst (λ xs. Meets T m.meter (Ok c.in_ok-count.count) m.meter (given (lengths (map tree_of xs)) (common_places s))) c.deref.ensures.value (c.in_ok-count.ensures m.meter) in
    let r : Round g.row.A.Denot = record { block = c.args.block; body = c.args.body; sources = c.args.sources; chosen = All c.in_ok-count.count; turns = 0; place = 0; start = m.meter.depth; most = 0; kept = c.new.result; values = c.with_room.result } in
    boxed_round m (λ (b : Box (Round g.row.A.Denot) g.row.A.Denot). b.value) r c.in_box.result (left_with t m (and_then (at_places s vs R) K)) (λ r. unwound t (frames_of m) (slots_of m) (stack_of m) (between t m.levels next (env_of m) (local_of m) r))
    (elim (found_first T t m c.in_ok-count.count P (λ is. and_then (R is) K) found) [
      | inl x ↦ inl (ap (left_with t m) (places_first s vs R K) ∙ x)
      | inr x ↦ inr
          (ap (left_with t m) (places_first s vs R K) ∙ x.2
          ∙ ap (unwound t (frames_of m) (slots_of m) (stack_of m))
          (first_between t m.levels next (env_of m) (local_of m) r vs (body_block c.args.block.now) c.args.body x.0 m.meter.depth
          refl refl refl x.1 refl refl refl c.new.ensures.items c.with_room.ensures))
    ])
    (subst (λ d. MatchResult c.in_box.result (λ b. b.value ≡ record r { start = d }) (λ e. e ≡ Memory)) c.depth.ensures.depth c.in_box.ensures)
