use Rattle.nesl_values.specs.View.{tree_of}
use Rattle.std.proofs.Common.{map}
use Rattle.nesl_values.specs.Parts.{as_pair}
use Rattle.nesl_seqs_base.specs.Reductions.{all_of}
use Rattle.nesl_seqs_build.proofs.Unzipping.{sides_made}
use Rattle.nesl_seqs_build.proofs.sides.both_sides.Goals as goal

pub returns : goal.returns
returns g c =
    sides_made c.pair_of_made.result (all_of as_pair (map tree_of c.args.values.now)) (λ ps h.
    c.pair_of_made.ensures _ _ (c.finished-lefts.ensures _ (rw c.with_room-lefts.ensures at (c.push_sides-outcome.ensures.lefts ps h))) (c.finished-rights.ensures _ (rw c.with_room-rights.ensures at (c.push_sides-outcome.ensures.rights ps h))))
