use Rattle.nesl_eval_rounds.proofs.leaves.part_of_local.Goals as goal

pub returns : goal.returns
returns g c = λ m. rw (← c.deref.ensures.value) (c.part_at.ensures m)
