use Rattle.nesl_eval_rounds.proofs.leaves.any_leaf_value.Goals as goal

pub returns-in-Local-clause-meets : goal.returns-in-Local-clause-meets
returns-in-Local-clause-meets g c = rw c.in-Local.is (c.whole_local.ensures c.args.meter.now)

pub returns-in-Left-clause-meets : goal.returns-in-Left-clause-meets
returns-in-Left-clause-meets g c = rw c.in-Left.is (c.left_of_local.ensures c.args.meter.now)

pub returns-in-Right-clause-meets : goal.returns-in-Right-clause-meets
returns-in-Right-clause-meets g c = rw c.in-Right.is (c.right_of_local.ensures c.args.meter.now)

pub returns-in-Part-clause-meets : goal.returns-in-Part-clause-meets
returns-in-Part-clause-meets g c = rw (c.in-Part.is, ← c.deref-in-Part.ensures) (c.part_of_local.ensures c.args.meter.now)

pub returns-in-Top-clause-meets : goal.returns-in-Top-clause-meets
returns-in-Top-clause-meets g c = rw c.in-Top.is (c.find_top.ensures c.args.meter.now)

pub returns-in-Named-clause-meets : goal.returns-in-Named-clause-meets
returns-in-Named-clause-meets g c = rw (c.in-Named.is, ← c.deref-in-Named.ensures, ← c.deref-in-Named-2.ensures.value) (c.named_top.ensures c.args.meter.now)
