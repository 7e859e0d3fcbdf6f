use Rattle.nesl_eval_rounds.proofs.making.make_of_many.Goals as goal

pub returns-in-Sequence-clause-meets : goal.returns-in-Sequence-clause-meets
returns-in-Sequence-clause-meets g c = rw c.in-Sequence.is (c.sequence_of.ensures c.args.meter.now)
