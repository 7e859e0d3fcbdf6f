use Rattle.nesl_eval_nodes.proofs.nodes.apply_builtin.Goals as goal

pub returns-in-One-clause-meets : goal.returns-in-One-clause-meets
returns-in-One-clause-meets g c = rw (c.in-OfOne.is, c.in-One.is) (c.apply_unary.ensures c.args.meter.now)

pub returns-in-Two-argument-clause-meets : goal.returns-in-Two-argument-clause-meets
returns-in-Two-argument-clause-meets g c = rw (c.in-OfTwo.is, c.in-Two-argument.is) (c.apply_binary.ensures c.args.meter.now)

pub returns-in-Some-clause-meets : goal.returns-in-Some-clause-meets
returns-in-Some-clause-meets g c =
    rw (c.in-OfTwo.is, c.in-One-argument.is, ← c.in-Some.ensures) (c.apply_binary-in-Some.ensures c.args.meter.now)
