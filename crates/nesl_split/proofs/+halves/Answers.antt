use Rattle.std.proofs.Common.{◌≡◌, ℕ, ◌-◌, ◌/◌, Global, subst, arith, refl, Ok, Err, [], ◌+◌, ap, ◌∙◌, sym, inl, inr, map}
use Rattle.std.specs.Prelude.{slice_range}
use Rattle.std.proofs.lemmas.Result.{err_from_is_err_and}
use Rattle.nesl_values.specs.View.{tree_of}
use Rattle.nesl_eval_meaning.specs.Out.{Out, and_then, all_beside, after_cost}
use Rattle.nesl_eval_meaning.proofs.Joins.{all_halved}
use Rattle.nesl_eval_nodes.specs.Sides.{places_of}
use Rattle.nesl_eval_nodes.specs.Measures.{Measure}
use Rattle.nesl_eval_nodes.specs.Meets.{Meets}
use Rattle.nesl_eval_nodes.proofs.Runs.{memory_any}
use Rattle.nesl_eval_nodes.proofs.Sides.{turn_stops, turns_done}
use Rattle.nesl_eval_code.specs.Run.{Table}
use Rattle.nesl_eval_ops.specs.View.{block_of}
use Rattle.nesl_eval_rounds.specs.declared.state.Round.{Round}
use Rattle.nesl_eval_rounds.specs.Rounds.{between, chosen_places, places_left}
use Rattle.nesl_eval_machine.specs.declared.state.Machine.{Machine}
use Rattle.nesl_eval_machine.specs.declared.state.Hand.TheVariants.{Done, Empty}
use Rattle.nesl_split.specs.declared.reached.Reached.{Reached}
use Rattle.nesl_eval_machine.specs.State.{HasBodies, places_of as names_of, left, left_at_hand, env_of, local_of, frames_of}
use Rattle.nesl_eval_machine.specs.Steps.{Moves}
use Rattle.nesl_eval_machine.proofs.Stepping as stepping
use Rattle.nesl_eval_machine.proofs.Hands.{then_moves, ends_done}
use Rattle.nesl_eval_machine.proofs.Whole.{begun}
use denote.Param.{param}
use denote.Param.Send.{param_sync, sendable}
use Rattle.nesl_split.specs.declared.crew.Crew.{Crew}
use Rattle.nesl_split.specs.declared.turns.Room.{Room}
use Rattle.std.proofs.Crossing as standard
use Rattle.nesl_eval_helpers.specs.declared.halving.Half.{Half}
use Rattle.nesl_split.specs.declared.found.Found.{Found}
use Rattle.nesl_split.specs.Finding.{Are, wanted_with, Adds, listed, of_value}
use Rattle.nesl_split.specs.Intervals.{at_turn, found_in}
use Rattle.nesl_split.specs.Halves.{Came, Reaches}
use Rattle.nesl_split.proofs.Finding.{turn_more}
use Rattle.nesl_split.proofs.Taken.{add_ends, came_then, stopped_rest, from_rest, turn_ran, advances_came}
use Rattle.nesl_split.proofs.Left.{FindsLeft, interval_finds, lent_came}
use Rattle.nesl_split.proofs.Reaching.{round_moves}
use Rattle.nesl_split.proofs.Ranges.{range_first, range_none, range_cut}
use Rattle.nesl_split.proofs.Halved.{found_halved}
use Rattle.nesl_split.proofs.Crosses.{interval_sync}
use Rattle.nesl_split.proofs.Unshared.{found_own}
use Rattle.nesl_split.proofs.+halves.Goals as goal

pub halves::go_round_in_halves-returns-in_err-rounds_in_halves : goal.halves::go_round_in_halves-returns-in_err-rounds_in_halves
halves::go_round_in_halves-returns-in_err-rounds_in_halves g t c = λ fits.
    let tb = g.T.Tops.table c.args.crew.now.tops.now in
    let m = c.args.machine.now in
    let b = block_of c.args.next.now in
    let p = err_from_is_err_and c.from_residual.result c.from_residual.ensures.1 in
    rw (p.1, p.2) (stopped_rest (Unit {0}) tb m c.rounds_in_halves.new.machine b c.in_err-rounds_in_halves.field-0.0 c.args.round.value c.rounds_in_halves.new.round.value
    c.in_err-rounds_in_halves.ensures.meter
    (subst (λ (x : Measure). Came {U = Unit {0}} x.fuel (Err c.in_err-rounds_in_halves.field-0.0) c.rounds_in_halves.new.machine.meter.fuel (between tb m.levels b (env_of m) (local_of m) c.args.round.value) (between tb m.levels b (env_of m) (local_of m) c.rounds_in_halves.new.round.value))
    c.restart.ensures (c.in_err-rounds_in_halves.ensures.came b (local_of m) fits.0)))

pub halves::go_round_in_halves-returns : goal.halves::go_round_in_halves-returns
halves::go_round_in_halves-returns g t c = λ fits.
    let tb = g.T.Tops.table c.args.crew.now.tops.now in
    let m = c.args.machine.now in
    let n = c.go_on_with_round.new.self in
    let b = block_of c.args.next.now in
    from_rest tb m c.rounds_in_halves.new.machine n b (block_of n.code.now) c.args.round.value c.rounds_in_halves.new.round.value (tt {0}) c.go_on_with_round.result
    c.in_ok-rounds_in_halves.ensures.meter
    (subst (λ (x : Measure). Came {U = Unit {0}} x.fuel (Ok (tt {0})) c.rounds_in_halves.new.machine.meter.fuel (between tb m.levels b (env_of m) (local_of m) c.args.round.value) (between tb m.levels b (env_of m) (local_of m) c.rounds_in_halves.new.round.value))
    c.restart.ensures (c.in_ok-rounds_in_halves.ensures.came b (local_of m) fits.0)) fits
    (λ h. c.go_on_with_round.ensures tb h)

pub halves::make_moves-loop-init : goal.halves::make_moves-loop-init
halves::make_moves-loop-init g t c = λ fits. begun (g.T.Tops.table c.args.crew.now.tops.now) c.args.machine.now fits

pub halves::make_moves-loop-preserved-then-may_be_cut : goal.halves::make_moves-loop-preserved-then-may_be_cut
halves::make_moves-loop-preserved-then-may_be_cut g t c = λ fits.
    let tb = g.T.Tops.table c.args.crew.now.tops.now in
    let m = c.args.machine.now in
    let n = c.move_in_halves.new.machine in
    then_moves tb m c.loop.machine n c.loop.hand (Ok c.in_ok-hand.hand) (left tb m) (c.loop.invariant fits) (λ h. c.in_ok-hand.ensures h)

pub halves::make_moves-loop-preserved : goal.halves::make_moves-loop-preserved
halves::make_moves-loop-preserved g t c = λ fits.
    let tb = g.T.Tops.table c.args.crew.now.tops.now in
    let m = c.args.machine.now in
    let n = c.go_on.new.self in
    then_moves tb m c.loop.machine n c.loop.hand (Ok c.in_ok-next.next) (left tb m) (c.loop.invariant fits) (λ h. c.in_ok-next.ensures h)

pub halves::make_moves-returns : goal.halves::make_moves-returns
halves::make_moves-returns g t c = λ fits.
    stepping.memory_any (frames_of c.loop.machine) c.args.machine.now.meter.fuel c.loop.machine.meter.fuel (left (g.T.Tops.table c.args.crew.now.tops.now) c.args.machine.now)

pub halves::move_in_halves-returns-in_err-go_round_in_halves-in-Round : goal.halves::move_in_halves-returns-in_err-go_round_in_halves-in-Round
halves::move_in_halves-returns-in_err-go_round_in_halves-in-Round g t c = λ fits.
    let tb = g.T.Tops.table c.args.crew.now.tops.now in
    let m = c.args.machine.now in
    let p = err_from_is_err_and c.from_residual-in_err-go_round_in_halves-in-Round.result c.from_residual-in_err-go_round_in_halves-in-Round.ensures.1 in
    rw (p.1, p.2)
    (round_moves {U = Unit {0}} tb m c.reach.new.machine c.go_round_in_halves.new.machine (Err c.in_err-go_round_in_halves-in-Round.field-0.0) (Err c.in_err-go_round_in_halves-in-Round.field-0.0) (block_of c.in-Round.next.now) c.in-Round.round.value (left_at_hand tb m c.args.hand) refl
    (subst (λ (r : Reached). Reaches tb m (Ok r) c.reach.new.machine (left_at_hand tb m c.args.hand)) c.in-Round.is (c.in_ok-round.ensures tb fits)) (λ h. c.in_err-go_round_in_halves-in-Round.ensures h))

pub halves::move_in_halves-returns-in_ok-go_round_in_halves-in-Round : goal.halves::move_in_halves-returns-in_ok-go_round_in_halves-in-Round
halves::move_in_halves-returns-in_ok-go_round_in_halves-in-Round g t c = λ fits.
    let tb = g.T.Tops.table c.args.crew.now.tops.now in
    let m = c.args.machine.now in
    round_moves tb m c.reach.new.machine c.go_round_in_halves.new.machine (Ok (tt {0})) (Ok Empty) (block_of c.in-Round.next.now) c.in-Round.round.value (left_at_hand tb m c.args.hand) refl
    (subst (λ (r : Reached). Reaches tb m (Ok r) c.reach.new.machine (left_at_hand tb m c.args.hand)) c.in-Round.is (c.in_ok-round.ensures tb fits)) (λ h. c.in_ok-go_round_in_halves-in-Round.ensures h)

pub halves::rounds_in_halves-returns-clause-came : goal.halves::rounds_in_halves-returns-clause-came
halves::rounds_in_halves-returns-clause-came g t c = λ b st bodies.
    let tb = g.T.Tops.table c.args.crew.now.tops.now in
    let m = c.args.machine.now in
    let m1 = c.turns_in_halves.new.machine in
    let n = c.turns_in_halves-2.new.machine in
    let r2 = c.advance_to_body.new.round.value in
    let r3 = c.turns_in_halves-2.new.round.value in
    let x = c.turns_in_halves-2.result in
    came_then m.meter.fuel m1.meter.fuel n.meter.fuel (tt {0}) x _ (between tb m.levels b (env_of m) st r2) (between tb m.levels b (env_of m) st r3)
    (subst (λ q. Came {U = Unit {0}} m.meter.fuel (Ok (tt {0})) m1.meter.fuel (between tb m.levels b (env_of m) st c.args.round.now.value) q) (c.in_ok-advance_to_body.ensures tb m.levels b (env_of m) st) (c.in_ok-turns_in_halves.ensures.came b st bodies))
    (subst (λ (y : Machine Global). HasBodies tb y.bodies.now → Came m1.meter.fuel x n.meter.fuel (between tb y.levels b (env_of y) st r2) (between tb y.levels b (env_of y) st r3))
    c.in_ok-turns_in_halves.ensures.meter (c.turns_in_halves-2.ensures.came b st) bodies)

pub halves::turns_in_halves-returns-in_default-clause-came : goal.halves::turns_in_halves-returns-in_default-clause-came
halves::turns_in_halves-returns-in_default-clause-came g t c = λ b st bodies.
    advances_came (g.T.Tops.table c.args.crew.now.tops.now) c.args.machine.now c.take_new_turns.new.self c.take_new_turns.result c.args.round.now.value c.take_new_turns.new.round.value b st c.take_new_turns.ensures.took

pub halves::turns_in_halves-returns-clause-came : goal.halves::turns_in_halves-returns-clause-came
halves::turns_in_halves-returns-clause-came g t c = λ b st bodies.
    let tb = g.T.Tops.table c.args.crew.now.tops.now in
    let m = c.args.machine.now in
    let start = c.begin_turns-meter in
    let room = start.result.0 in
    let i = c.interval_of-whole in
    let x = c.find_in_halves-found in
    let r = c.args.round.now.value in
    let there = c.deref-2.ensures in
    let left = subst (λ (q : Round Global). slice_range (chosen_places q.chosen) c.turns_left.result.from c.turns_left.result.to ≡ places_left q q.turns) c.deref-3.ensures c.turns_left.ensures.left in
    let env = names_of room.names.now in
    let found = interval_finds g.T.Tops.table i.result c.turns_left.result room c.args.crew.now r start.result.1 x.new.meter x.result
    (i.ensures.wanted ∙ ap (λ (q : Round Global). wanted_with q.body) there) i.ensures.room (i.ensures.block ∙ ap (λ (q : Round Global). q.block.now) there) (i.ensures.sources ∙ ap (λ (q : Round Global). q.sources.items) there) (i.ensures.places ∙ ap (λ (q : Round Global). chosen_places q.chosen) there) i.ensures.crew left (x.ensures.meets (subst (λ (k : Crew _ _ _ _). HasBodies (g.T.Tops.table k.tops.now) i.result.room.now.bodies.now) (sym i.ensures.crew) (subst (λ (q : Room). HasBodies tb q.bodies.now) (sym i.ensures.room) (subst (HasBodies tb) (sym start.ensures.bodies) bodies)))) in
    rw (c.leave.ensures, c.fuel.ensures) (lent_came tb room.levels m.levels b st start.result.1.fuel m.meter.fuel x.new.meter.fuel c.end_turns.result env (env_of m) c.deref_mut.result.now r c.end_turns.new.round
    start.ensures.levels start.ensures.names start.ensures.fuel c.deref_mut.ensures.value
    (c.end_turns.ensures tb room.levels b env st start.result.1 start.ensures.depth (subst (λ (q : Round Global). FindsLeft tb room.levels env q q.body start.result.1 x.result x.new.meter) (sym c.deref_mut.ensures.value) found)))

pub intervals::find_in_halves-fork-first-requires-sync-S : goal.intervals::find_in_halves-fork-first-requires-sync-S
intervals::find_in_halves-fork-first-requires-sync-S g t c = λ κs lives.
    search (sendable, standard.crosses, interval_sync, c.requires-raw, c.requires-raw.0, c.requires-raw.1) depth 30 fits 100000

pub intervals::find_in_halves-returns-clause-meets : goal.intervals::find_in_halves-returns-clause-meets
intervals::find_in_halves-returns-clause-meets g t c = λ bodies.
    let s = c.args.interval.now in
    let m = c.args.meter.now in
    let l = c.halves.result.0 in
    let r = c.halves.result.1 in
    let x = c.join_found in
    subst (λ o. Meets (Are s.wanted) m x.result x.new.meter o) (sym (found_halved g.T.Tops.table s c.args.turns l r c.halves.ensures))
    (x.ensures.meets (found_in g.T.Tops.table s l) (found_in g.T.Tops.table s r) (c.fork-first.ensures.left.1 bodies m (sym c.fuel-fuel.ensures)) (c.fork-first.ensures.right.1 bodies m (sym c.fuel-fuel.ensures)))

pub intervals::find_one_by_one-returns-in_err-take_turn-clause-meets : goal.intervals::find_one_by_one-returns-in_err-take_turn-clause-meets
intervals::find_one_by_one-returns-in_err-take_turn-clause-meets g t c = λ bodies.
    let s = c.args.interval.now in
    let w = s.wanted in
    let q = λ (i : ℕ). and_then (at_turn g.T.Tops.table s i) (of_value w i) in
    let is = places_of s.places in
    let n = c.args.turns.to in
    let k = c.loop-turn.turn in
    let i = c.at-place.result in
    let x = c.take_turn in
    let p = err_from_is_err_and c.from_residual.result c.from_residual.ensures.1 in
    let met = subst (λ (y : Measure). Meets (Adds w c.loop-turn.found x.new.so_far) y (Err c.in_err-take_turn.field-0.0) x.new.meter (q i)) c.restart.ensures (c.in_err-take_turn.ensures.meets bodies c.loop-turn.invariant.kind) in
    rw (p.1, p.2)
    (turn_stops (Are w) (Adds w c.loop-turn.found x.new.so_far) q (slice_range is k n) (slice_range is (k + 1) n) i c.loop-turn.meter.fuel c.depth-start.result c.loop-turn.most (listed w c.loop-turn.found) c.args.meter.now x.new.meter c.in_err-take_turn.field-0.0 (all_beside q (slice_range is c.args.turns.from n))
    (range_first is k n i c.loop-turn-test.true c.at-place.ensures) (c.loop-turn.invariant.leads bodies) met)

pub intervals::find_one_by_one-loop-turn-preserved : goal.intervals::find_one_by_one-loop-turn-preserved
intervals::find_one_by_one-loop-turn-preserved g t c =
    let s = c.args.interval.now in
    let w = s.wanted in
    let q = λ (i : ℕ). and_then (at_turn g.T.Tops.table s i) (of_value w i) in
    let is = places_of s.places in
    let n = c.args.turns.to in
    let k = c.loop-turn.turn in
    let i = c.at-place.result in
    let x = c.take_turn in
    record {
      kind = c.in_ok-take_turn.ensures.kind ∙ c.loop-turn.invariant.kind;
      leads = λ bodies. turn_more (Are w) q (slice_range is k n) (slice_range is (k + 1) n) i c.loop-turn.meter.fuel c.depth-start.result c.loop-turn.most _ (listed w c.loop-turn.found) (listed w x.new.so_far) c.args.meter.now x.new.meter (tt {0}) (all_beside q (slice_range is c.args.turns.from n))
          (range_first is k n i c.loop-turn-test.true c.at-place.ensures) c.deepest-most.ensures (c.loop-turn.invariant.leads bodies)
          (subst (λ (y : Measure). Meets (Adds w c.loop-turn.found x.new.so_far) y (Ok (tt {0})) x.new.meter (q i)) c.restart.ensures (c.in_ok-take_turn.ensures.meets bodies c.loop-turn.invariant.kind));
      spent = omega (arith, c.deepest-most.ensures, c.loop-turn.invariant.spent, c.in_ok-take_turn.ensures.spent, ap (λ (y : Measure). y.fuel) c.restart.ensures, ap (λ (y : Measure). y.depth) c.restart.ensures);
      begun = c.loop-turn.invariant.begun;
    }

pub intervals::find_one_by_one-returns-clause-meets : goal.intervals::find_one_by_one-returns-clause-meets
intervals::find_one_by_one-returns-clause-meets g t c = λ bodies.
    let s = c.args.interval.now in
    let w = s.wanted in
    let q = λ (i : ℕ). and_then (at_turn g.T.Tops.table s i) (of_value w i) in
    let is = places_of s.places in
    let n = c.args.turns.to in
    let l = c.loop-turn in
    rw c.set_depth.ensures (turns_done (Are w) q (slice_range is l.turn n) l.meter.fuel c.depth-start.result l.most (listed w l.found) c.args.meter.now l.found (all_beside q (slice_range is c.args.turns.from n))
    (range_none is l.turn n c.loop-turn-test.false) (l.invariant.leads bodies) (l.invariant.kind, refl))

pub intervals::find_with_own-returns-clause-meets : goal.intervals::find_with_own-returns-clause-meets
intervals::find_with_own-returns-clause-meets g t c = λ bodies.
    let s = c.args.interval.now in
    let x = c.find-2 in
    let own = c.in-Some in
    subst (λ o. Meets (Are s.wanted) c.args.meter.now x.result x.new.meter o)
    (found_own g.T.Tops.table s c.args.turns (g.T.Tops.table own.tops) (map tree_of c.deref.result.now) own.ensures.tops (ap (map tree_of) c.deref.ensures.value ∙ own.ensures.names))
    (x.ensures.meets (subst (λ (q : Table). HasBodies q s.room.now.bodies.now) (sym own.ensures.tops) bodies))
