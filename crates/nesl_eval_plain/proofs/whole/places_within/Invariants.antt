use Rattle.std.proofs.Common.{◌≡◌, ℕ, ◌+◌, ◌-◌, ◌≤◌, map}
use Rattle.std.specs.Prelude.{slice_range}
use Rattle.nesl_values.specs.View.{tree_of}
use Rattle.nesl_eval_meaning.specs.Out.{value, and_then, all_beside}
use Rattle.nesl_eval_meaning.specs.Outcome.{place_if_true}
use Rattle.nesl_eval_code.specs.Run.{run, run_at}
use Rattle.nesl_eval_nodes.specs.Scopes.{frames_of}
use Rattle.nesl_eval_nodes.specs.Sides.{places_of}
use Rattle.nesl_eval_plain.proofs.whole.places_within.Given as goal

abbrev pub invariant-loop-turn : goal.invariant-loop-turn
invariant-loop-turn g l =
    let w = l.whole in
    let p = λ (i : ℕ). and_then (run_at (run l.levels (g.T.Tops.table w.tops.now)) (frames_of w.scope.now) (map tree_of w.values.now) l.filter i) (place_if_true i) in
    record {
      values : all_beside p (slice_range (places_of w.places) w.from l.turn) ≡ value (l.places.items) (l.fuel - l.left) l.most;
      spent : l.left + l.most ≤ l.fuel;
      turns : (w.from ≤ l.turn) × (l.turn ≤ w.to);
    }

abbrev pub decreases-loop-turn : goal.decreases-loop-turn
decreases-loop-turn g l = l.whole.to - l.turn
