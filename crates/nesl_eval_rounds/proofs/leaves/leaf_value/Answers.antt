use Rattle.nesl_eval_rounds.proofs.leaves.leaf_value.Goals as goal

pub returns-in-Local-clause-meets : goal.returns-in-Local-clause-meets
returns-in-Local-clause-meets g c = rw c.in-Local.is (c.whole_local.ensures c.args.meter.now)

pub returns-in-Left-clause-meets : goal.returns-in-Left-clause-meets
returns-in-Left-clause-meets g c = rw c.in-Left.is (c.left_apart.ensures c.args.meter.now)

pub returns-in-Right-clause-meets : goal.returns-in-Right-clause-meets
returns-in-Right-clause-meets g c = rw c.in-Right.is (c.right_apart.ensures c.args.meter.now)
