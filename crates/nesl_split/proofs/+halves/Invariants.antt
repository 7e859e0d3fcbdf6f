use Rattle.std.proofs.Common.{◌≡◌, ℕ, ◌+◌, ◌*◌, ◌≤◌, ◌⊎◌}
use Rattle.std.specs.Prelude.{slice_range}
use Rattle.nesl_eval_meaning.specs.Out.{stuck, and_then, all_beside}
use Rattle.nesl_eval_nodes.specs.Sides.{places_of}
use Rattle.nesl_eval_nodes.proofs.Sides.{after, meter}
use Rattle.nesl_eval_nodes.proofs.Runs.{LeadsTo}
use Rattle.nesl_eval_machine.specs.State.{Fits, HasBodies, left, left_at_hand}
use Rattle.nesl_eval_rounds.specs.Leads.{Leads}
use Rattle.nesl_split.specs.Finding.{IsOf, Are, listed, of_value}
use Rattle.nesl_split.specs.Intervals.{at_turn}
use Rattle.nesl_split.proofs.+halves.Given as goal

abbrev pub decreases-halves::turns_in_halves : goal.decreases-halves::turns_in_halves
decreases-halves::turns_in_halves g l = l.cuts * 20 + 1

abbrev pub decreases-halves::rounds_in_halves : goal.decreases-halves::rounds_in_halves
decreases-halves::rounds_in_halves g l = l.cuts * 20 + 2

abbrev pub decreases-halves::go_round_in_halves : goal.decreases-halves::go_round_in_halves
decreases-halves::go_round_in_halves g l = l.cuts * 20 + 3

abbrev pub decreases-halves::move_in_halves : goal.decreases-halves::move_in_halves
decreases-halves::move_in_halves g l = l.cuts * 20 + 4

abbrev pub decreases-halves::make_moves : goal.decreases-halves::make_moves
decreases-halves::make_moves g l = l.cuts * 20 + 5

abbrev pub decreases-intervals::take_turn : goal.decreases-intervals::take_turn
decreases-intervals::take_turn g l = l.cuts * 20 + 6

abbrev pub decreases-intervals::find_one_by_one : goal.decreases-intervals::find_one_by_one
decreases-intervals::find_one_by_one g l = l.cuts * 20 + 7

abbrev pub decreases-intervals::find_in_order : goal.decreases-intervals::find_in_order
decreases-intervals::find_in_order g l = l.cuts * 20 + 8

abbrev pub decreases-intervals::find : goal.decreases-intervals::find
decreases-intervals::find g l = l.cuts * 20 + 9

abbrev pub decreases-intervals::find_with_own : goal.decreases-intervals::find_with_own
decreases-intervals::find_with_own g l = l.cuts * 20 + 10

abbrev pub decreases-intervals::find_half : goal.decreases-intervals::find_half
decreases-intervals::find_half g l = l.cuts * 20 + 11

abbrev pub decreases-intervals::find_in_halves-half : goal.decreases-intervals::find_in_halves-half
decreases-intervals::find_in_halves-half g l = l.cuts * 20 + 12

abbrev pub decreases-intervals::find_in_halves : goal.decreases-intervals::find_in_halves
decreases-intervals::find_in_halves g l = l.grant.cuts * 20 + 13

abbrev pub invariant-halves::make_moves-loop : goal.invariant-halves::make_moves-loop
invariant-halves::make_moves-loop g l =
    let t = g.T.Tops.table l.crew.tops.now in
    Fits t l.fn.machine → (left t l.fn.machine ≡ stuck) ⊎ Leads l.fn.machine.meter.fuel l.machine.meter.fuel (left t l.fn.machine) (left_at_hand t l.machine l.hand) (Fits t l.machine)

abbrev pub invariant-intervals::find_one_by_one-loop-turn : goal.invariant-intervals::find_one_by_one-loop-turn
invariant-intervals::find_one_by_one-loop-turn g l =
    let s = l.interval in
    let w = s.wanted in
    let p = λ (i : ℕ). and_then (at_turn g.T.Tops.table s i) (of_value w i) in
    let is = places_of s.places in
    record {
      kind : IsOf w l.found;
      leads : HasBodies (g.T.Tops.table s.crew.now.tops.now) s.room.now.bodies.now → LeadsTo (Are w) (meter l.meter.fuel l.start) (after (listed w l.found) l.most (all_beside p (slice_range is l.turn l.to))) l.fn.meter (all_beside p (slice_range is l.from l.to));
      spent : l.meter.fuel + l.most ≤ l.fn.meter.fuel;
      begun : l.start ≡ l.fn.meter.depth;
    }
