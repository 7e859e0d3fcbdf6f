use Rattle.nesl_seqs_build.proofs.building.joined_copy.Goals as goal

pub returns : goal.returns
returns g c = c.finished.ensures _ (rw c.with_room-builder.ensures at c.extend_by_both-outcome.ensures)
