use Rattle.std.proofs.Common.{ap, arith, ◌<◌, Some}
use Rattle.std.specs.List.{range_with_len}
use Rattle.std.proofs.lemmas.List.FromFn.{length-range_with_len, get_or-range_with_len}
use Rattle.std.proofs.lemmas.Option.{slice_get-get_or}
use Rattle.nesl_eval_nodes.proofs.places.Places.at.Goals as goal

pub returns-in-All : goal.returns-in-All
returns-in-All c =
    let n = c.in-All.field-0 in
    let h = rw c.in-All.is at c.requires in
    let within : c.args.turn < n = rw (length-range_with_len 0 n) at h in
    rw (c.in-All.is, slice_get-get_or (range_with_len 0 n) c.args.turn 0 h, get_or-range_with_len 0 n c.args.turn 0 within) (ap Some (omega arith))

pub returns-in-These : goal.returns-in-These
returns-in-These c = rw (c.in-These.is) (slice_get-get_or c.in-These.places.now c.args.turn 0 (rw c.in-These.is at c.requires))
