use Rattle.std.proofs.Common.{◌*◌, ◌<◌, arith}
use Rattle.std.proofs.lemmas.Int.{ints}
use Rattle.nesl_seqs_build.proofs.Numbers.{step_below}
use Rattle.nesl_seqs_build.proofs.ranges.steps_below.Goals as goal

pub returns-clause-below : goal.returns-clause-below
returns-clause-below c j h =
    let within : j * c.args.step < c.distance-gap.result = step_below c.distance-gap.result c.args.step j c.requires h in
    omega (arith, ints, c.distance-gap.ensures.above)
