use Rattle.std.proofs.Common.{true, arith}
use Rattle.nesl_eval_columns.proofs.Turns.{three_turn, three_whole}
use Rattle.nesl_eval_columns.proofs.made.filled.Goals as goal

pub loop-place-preserved : goal.loop-place-preserved
loop-place-preserved g c = λ t.
    three_turn (λ x y r. goal.F-post g c.args.f x y r) c.args.left.now c.args.right.now c.loop-place.out c.loop-place.place c.index-left-place.result c.index-right-place.result c.f-made.result c.loop-place.all (omega arith) (omega arith) (omega arith) c.index-left-place.is c.index-right-place.is c.loop-place.invariant c.f-made.ensures t

pub returns : goal.returns
returns g c = λ t.
    three_whole (λ x y z. goal.F-post g c.args.f x y (z, true)) c.args.left.now c.args.right.now c.loop-place.out c.loop-place.place (omega arith) (omega arith) (omega arith) (c.loop-place.invariant t)
