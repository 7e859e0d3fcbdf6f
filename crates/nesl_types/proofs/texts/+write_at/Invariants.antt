use Rattle.nesl_types.proofs.texts.+write_at.Given as goal

abbrev pub decreases-write_at : goal.decreases-write_at
decreases-write_at g l = l.depth
