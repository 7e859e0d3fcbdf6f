use Rattle.nesl_seqs_build.proofs.building.sequence_of_two.Goals as goal

pub returns : goal.returns
returns g c = c.finished.ensures _ (rw c.with_room-builder.ensures at c.push_both-outcome.ensures)
