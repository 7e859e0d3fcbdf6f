use Rattle.std.proofs.Common.{length, ap, arith}
use Rattle.nesl_types_shared.proofs.Made.{length-types}
use Rattle.nesl_builtins.proofs.Listed.{types}
use Rattle.nesl_builtins.proofs.shapes.last.Goals as goal

pub of-parts-requires : goal.of-parts-requires
of-parts-requires c = types c.args.shapes.now c.requires.types

pub overflow_sub-place : goal.overflow_sub-place
overflow_sub-place c =
    omega (arith, c.len-place.ensures.len, ap length c.of-parts.ensures, length-types c.args.shapes.now, c.requires.some)

pub of-requires : goal.of-requires
of-requires c =
    omega (arith, c.len-place.ensures.len, ap length c.of-parts.ensures, length-types c.args.shapes.now, c.requires.some)
