use Rattle.nesl_values.proofs.node.Node.entered.Goals as goal

pub entered-requires-clause-counted : goal.entered-requires-clause-counted
entered-requires-clause-counted g c = c.self.invariant

pub entered-requires-clause-room : goal.entered-requires-clause-room
entered-requires-clause-room g c = rw c.self.view_is c.requires

pub invariant_of-self : goal.invariant_of-self
invariant_of-self g c = c.entered.ensures.counted
