use Rattle.std.proofs.Common.{length, ap, sym, ◌∙◌}
use Rattle.nesl_types_shared.proofs.Once.{same_place}
use Rattle.nesl_types_shared.proofs.Made.{length-types}
use Rattle.nesl_types_shared.proofs.parts.Parts.len.Goals as goal

pub returns-clause-len : goal.returns-clause-len
returns-clause-len c = sym (length-types c.self.inside.shapes.now) ∙ ap length c.self.view_is

pub returns-clause-distinct : goal.returns-clause-distinct
returns-clause-distinct c = same_place c.self.inside.shapes.now c.args.self.now c.self.invariant.made c.self.invariant.once c.self.view_is
