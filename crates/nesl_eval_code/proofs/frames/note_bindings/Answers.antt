use Rattle.nesl_eval_code.proofs.Framed.{noted_next, noted_all}
use Rattle.nesl_eval_code.proofs.frames.note_bindings.Goals as goal

pub loop-index-preserved : goal.loop-index-preserved
loop-index-preserved c =
    noted_next c.args.bound.now c.loop-index.index c.index-bound-index.result c.loop-index.names.entries c.note_names.new.names.entries c.loop-index-test.true
    c.index-bound-index.is c.loop-index.invariant c.in_ok-note_names.ensures

pub returns : goal.returns
returns c = noted_all c.args.bound.now c.loop-index.index c.loop-index.names.entries c.loop-index-test.false c.loop-index.invariant
