-- Facts on systems have one proof each, so that a struct may keep them.
use Rattle.std.specs.Coded.{codes}
use Rattle.nesl_unify.specs.Solved.{said-prop}

pub ruleset facts = (said-prop, codes)
