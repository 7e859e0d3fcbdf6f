use Rattle.nesl_types_shared.proofs.Once.{same_place}
use Rattle.nesl_types_shared.proofs.bank.Bank.len.Goals as goal

pub returns-clause-distinct : goal.returns-clause-distinct
returns-clause-distinct c = same_place c.self.inside.shapes.items c.args.self.now c.self.invariant.0.made c.self.invariant.0.once c.self.view_is
