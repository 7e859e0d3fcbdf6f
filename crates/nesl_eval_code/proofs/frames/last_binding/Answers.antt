use Rattle.std.proofs.Common.{◌∙◌, ◌≤◌, length, arith}
use Rattle.nesl_eval_code.proofs.Framed.{last_here, last_before, last_all}
use Rattle.nesl_eval_code.proofs.frames.last_binding.Goals as goal
use Rattle.nesl_eval_code.proofs.frames.last_binding.Goals.{then-binds, else-binds}

pub loop-index-preserved : goal.loop-index-preserved
loop-index-preserved c = elim c.if-binds.branch [
  | then-binds w ↦ (w.last-is ∙ last_here c.args.name.now c.args.bindings.now c.loop-index.index c.index-bindings-index.result c.binds.result c.loop-index-test.true c.index-bindings-index.is c.binds.ensures w.if-binds.true, rw w.last-is c.loop-index-test.true)
  | else-binds w ↦ (w.last-is ∙ last_before c.args.name.now c.args.bindings.now c.loop-index.index c.index-bindings-index.result c.binds.result c.loop-index.last c.loop-index-test.true c.index-bindings-index.is c.binds.ensures w.if-binds.false c.loop-index.invariant.0, rw w.last-is c.loop-index.invariant.1)
]

pub returns-clause-last : goal.returns-clause-last
returns-clause-last c =
    let l : length c.args.bindings.now ≤ c.loop-index.index = omega arith in
    last_all c.args.name.now c.args.bindings.now c.loop-index.index c.loop-index.last l c.loop-index.invariant.0
