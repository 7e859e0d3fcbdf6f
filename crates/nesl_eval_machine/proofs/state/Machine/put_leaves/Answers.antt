use Rattle.std.proofs.Common.{◌≡◌, ap, sym, subst, arith, map, drop, Ok, Err, ◌+◌, [], length}
use Rattle.std.proofs.lemmas.Result.{err_from_is_err_and}
use Rattle.nesl_eval_code.specs.Block.{make}
use Rattle.nesl_eval_ops.specs.View.{leaf_is}
use Rattle.nesl_eval_nodes.proofs.Arms.{drop_past}
use Rattle.nesl_eval_nodes.proofs.Loops.{next_item}
use Rattle.nesl_eval_machine.specs.State.{left_at}
use Rattle.nesl_eval_machine.specs.Steps.{Steps}
use Rattle.nesl_eval_machine.proofs.Operands.{leaf_next, leaves_begin}
use Rattle.nesl_eval_machine.proofs.state.Machine.put_leaves.Goals as goal

pub loop-leaf-init : goal.loop-leaf-init
loop-leaf-init g c = λ s f k b fits. leaves_begin (g.T.Tops.table c.args.tops.now) c.args.self.now c.args.height s f k (map leaf_is c.args.leaves.now) b fits

pub loop-leaf-preserved : goal.loop-leaf-preserved
loop-leaf-preserved g c = λ s f k b fits.
    let t = g.T.Tops.table c.args.tops.now in
    let m = c.args.self.now in
    let ls = c.args.leaves.now in
    let i = c.loop-leaf.leaf-index in
    let x = c.leaf-item.result in
    leaf_next t m c.loop-leaf.self c.put_leaf.new.self (Ok (tt {0})) c.args.height s f k i (leaf_is x) (map leaf_is (drop i ls)) (map leaf_is (drop (i + 1) ls)) b _
    (ap (map leaf_is) (next_item ls x i c.loop-leaf-test.true c.leaf-item.is)) (c.loop-leaf.invariant s f k b fits) (λ d h. c.in_ok-put_leaf.ensures d h)

pub returns-in_err-put_leaf : goal.returns-in_err-put_leaf
returns-in_err-put_leaf g c = λ s f k b fits.
    let t = g.T.Tops.table c.args.tops.now in
    let m = c.args.self.now in
    let ls = c.args.leaves.now in
    let i = c.loop-leaf.leaf-index in
    let x = c.leaf-item.result in
    let p = err_from_is_err_and c.from_residual.result c.from_residual.ensures.1 in
    rw (p.1, p.2) (leaf_next {U = Unit {0}} t m c.loop-leaf.self c.put_leaf.new.self (Err c.in_err-put_leaf.field-0.0) c.args.height s f k i (leaf_is x) (map leaf_is (drop i ls)) (map leaf_is (drop (i + 1) ls)) b _
    (ap (map leaf_is) (next_item ls x i c.loop-leaf-test.true c.leaf-item.is)) (c.loop-leaf.invariant s f k b fits) (λ d h. c.in_err-put_leaf.ensures d h))

pub returns : goal.returns
returns g c = λ s f k b fits.
    let t = g.T.Tops.table c.args.tops.now in
    let ls = c.args.leaves.now in
    let i = c.loop-leaf.leaf-index in
    let m = c.args.self.now in
    let all : length ls ≡ i = omega arith in
    subst (λ j. Steps t m (Ok (tt {0})) c.loop-leaf.self (make c.args.height s f (k + j) [] b) (left_at t m (make c.args.height s f k (map leaf_is ls) b))) (sym all)
    (subst (λ l. Steps t m (Ok (tt {0})) c.loop-leaf.self (make c.args.height s f (k + i) (map leaf_is l) b) (left_at t m (make c.args.height s f k (map leaf_is ls) b))) (drop_past ls i all)
    (c.loop-leaf.invariant s f k b fits))
