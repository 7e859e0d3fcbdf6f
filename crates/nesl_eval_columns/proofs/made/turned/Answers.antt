use Rattle.std.proofs.Common.{true, arith}
use Rattle.nesl_eval_columns.proofs.Turns.{two_turn, two_whole}
use Rattle.nesl_eval_columns.proofs.made.turned.Goals as goal

pub loop-place-preserved : goal.loop-place-preserved
loop-place-preserved g c = λ t.
    two_turn (λ x r. goal.F-post g c.args.f x r) c.args.items.now c.loop-place.out c.loop-place.place c.index-items-place.result c.f-made.result c.loop-place.all (omega arith) (omega arith) c.index-items-place.is c.loop-place.invariant c.f-made.ensures t

pub returns : goal.returns
returns g c = λ t.
    two_whole (λ x z. goal.F-post g c.args.f x (z, true)) c.args.items.now c.loop-place.out c.loop-place.place (omega arith) (omega arith) (c.loop-place.invariant t)
