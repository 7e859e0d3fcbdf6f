use Rattle.std.proofs.Common.{◌≡◌, ◌+◌, Ok, subst, arith, [], map, length}
use Rattle.std.proofs.lemmas.Result.{err_from_is_err_and}
use Rattle.nesl_eval_code.specs.Block.{make}
use Rattle.nesl_eval_ops.specs.View.{block_of, leaf_is, many_is}
use Rattle.nesl_eval_machine.specs.State.{frames_of, left_at}
use Rattle.nesl_eval_machine.specs.Steps.{Steps}
use Rattle.nesl_eval_machine.proofs.Stepping.{memory_any}
use Rattle.nesl_eval_machine.proofs.Hands.{step_moves}
use Rattle.nesl_eval_machine.proofs.state.Machine.of_so_many.Goals as goal

pub returns-in_err-put_leaves : goal.returns-in_err-put_leaves
returns-in_err-put_leaves g c = λ fits.
    let k = c.args.node in
    let p = err_from_is_err_and c.from_residual.result c.from_residual.ensures.1 in
    rw (p.1, p.2) (c.in_err-put_leaves.ensures k.span (many_is k.many) c.args.count (block_of c.args.next.now) fits)

pub returns-in-Some : goal.returns-in-Some
returns-in-Some g c = λ fits.
    let t = g.T.Tops.table c.args.tops.now in
    let m = c.args.self.now in
    let k = c.args.node in
    let b = block_of c.args.next.now in
    let m1 = c.put_leaves.new.self in
    let n = c.of_all_tops.new.self in
    let o = left_at t m (make k.height k.span (many_is k.many) c.args.count (map leaf_is c.args.leaves.now) b) in
    let all : c.args.count + length c.args.leaves.now ≡ c.in-Some.all = omega (arith, c.in-Some.ensures) in
    step_moves t m m1 n (make k.height k.span (many_is k.many) c.in-Some.all [] b) (tt {0}) c.of_all_tops.result o
    (subst (λ j. Steps t m (Ok (tt {0})) m1 (make k.height k.span (many_is k.many) j [] b) o) all
    (c.in_ok-put_leaves.ensures k.span (many_is k.many) c.args.count b fits))
    (λ h. c.of_all_tops.ensures t h)

pub returns-in-None : goal.returns-in-None
returns-in-None g c = λ fits.
    let n = c.put_leaves.new.self in
    memory_any (frames_of n) c.args.self.now.meter.fuel n.meter.fuel _
