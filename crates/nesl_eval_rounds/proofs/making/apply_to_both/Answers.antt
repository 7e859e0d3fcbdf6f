use Rattle.nesl_eval_rounds.proofs.making.apply_to_both.Goals as goal

pub returns-in-OfTwo-clause-meets : goal.returns-in-OfTwo-clause-meets
returns-in-OfTwo-clause-meets g c = rw c.in-OfTwo.is (c.of_scalars.ensures c.args.meter.now)
