use Rattle.std.proofs.Common.{◌∙◌}
use Rattle.nesl_types_shared.proofs.Numbers.{number_of-place, number_of-absent}
use Rattle.nesl_types.proofs.schemes.number_of.Goals as goal

pub returns-in-Some : goal.returns-in-Some
returns-in-Some c = number_of-place c.args.variable c.in-Some.place c.args.seen.now.keys c.in-Some.ensures.index

pub returns-in-None : goal.returns-in-None
returns-in-None c = c.len.ensures.len ∙ number_of-absent c.args.variable c.args.seen.now.keys c.in-None.ensures.index
