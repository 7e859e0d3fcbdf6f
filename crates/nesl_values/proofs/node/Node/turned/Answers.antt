use Rattle.nesl_values.proofs.node.Node.turned.Goals as goal

pub turned-requires : goal.turned-requires
turned-requires g c = c.self.invariant

pub invariant_of-self : goal.invariant_of-self
invariant_of-self g c = c.turned.ensures.counted
