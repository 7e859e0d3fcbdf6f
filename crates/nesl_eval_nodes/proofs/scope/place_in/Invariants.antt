use Rattle.std.proofs.Common.{◌≡◌, map, drop}
use Rattle.nesl_values.specs.View.{tree_of}
use Rattle.nesl_eval_code.specs.Frames.{place_in}
use Rattle.nesl_eval_nodes.specs.Scopes.{cut, frames_of}
use Rattle.nesl_eval_nodes.proofs.scope.place_in.Given as goal

abbrev pub invariant-loop-size : goal.invariant-loop-size
invariant-loop-size g l =
    place_in (cut (drop l.size-index l.scope.sizes.now) (map tree_of l.values)) l.left l.index ≡ place_in (frames_of l.scope) l.up l.index
