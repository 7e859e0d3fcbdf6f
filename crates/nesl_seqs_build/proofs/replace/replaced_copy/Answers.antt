use Rattle.nesl_seqs_build.proofs.replace.replaced_copy.Goals as goal

pub returns : goal.returns
returns g c = c.finished.ensures _ (rw c.with_room-builder.ensures at c.extend_by_replaced-outcome.ensures)
