use Rattle.std.proofs.lemmas.Result.{err_from_is_err_and}
use Rattle.nesl_eval_ops.specs.View.{block_of}
use Rattle.nesl_eval_machine.specs.State.{frames_of}
use Rattle.nesl_eval_machine.proofs.Stepping.{memory_any}
use Rattle.nesl_eval_machine.proofs.Hands.{set_down}
use Rattle.nesl_split.proofs.reached.set_down.Goals as goal

pub returns : goal.returns
returns c = λ t fits.
    set_down t c.args.machine.now (block_of c.args.next.now) c.keep.new.values c.args.value c.in_ok-keep.ensures fits

pub returns-in_err-keep : goal.returns-in_err-keep
returns-in_err-keep c = λ t fits.
    let m = c.args.machine.now in
    let p = err_from_is_err_and c.from_residual.result c.from_residual.ensures.1 in
    rw (p.1, p.2, c.in_err-keep.ensures) (memory_any (frames_of m) m.meter.fuel m.meter.fuel _)
