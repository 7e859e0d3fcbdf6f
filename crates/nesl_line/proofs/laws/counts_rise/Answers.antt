use Rattle.nesl_line.proofs.Tallies.{counted_exact, counted_least, counted_most}
use Rattle.nesl_line.proofs.laws.counts_rise.Goals as goal

pub returns-clause-least : goal.returns-clause-least
returns-clause-least c = counted_least

pub returns-clause-most : goal.returns-clause-most
returns-clause-most c = counted_most

pub returns-clause-exact : goal.returns-clause-exact
returns-clause-exact c = counted_exact
