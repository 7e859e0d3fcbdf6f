use Rattle.std.proofs.Common.{◌+◌, ◌∙◌, sym, arith, drop, get_or}
use Rattle.std.proofs.lemmas.List.{drop_more}
use Rattle.nesl_eval_nodes.proofs.Lookups.{at_newest, below_newest}
use Rattle.nesl_eval_nodes.proofs.scope.place_in.Goals as goal

pub returns-then-left-eq0 : goal.returns-then-left-eq0
returns-then-left-eq0 g c =
    let l = c.loop-size in
    let ss = c.args.scope.now.sizes.now in
    let its = c.split_newest.ensures in
    at_newest (get_or ss l.size-index 0) (drop (l.size-index + 1) ss) (drop l.size-index ss) l.values.now c.split_newest.result.0.now c.split_newest.result.1.now l.left c.args.index _
    (drop_more ss l.size-index 0 c.loop-size-test.true) its.0 its.1 c.if-left-eq0.true c.value_at.ensures
    ∙ l.invariant

pub loop-size-preserved : goal.loop-size-preserved
loop-size-preserved g c =
    let l = c.loop-size in
    let ss = c.args.scope.now.sizes.now in
    let its = c.split_newest.ensures in
    sym (below_newest (get_or ss l.size-index 0) (drop (l.size-index + 1) ss) (drop l.size-index ss) l.values.now c.split_newest.result.0.now c.split_newest.result.1.now l.left c.args.index
    (omega (arith, c.if-left-eq0.false)) (drop_more ss l.size-index 0 c.loop-size-test.true) its.0 its.1)
    ∙ l.invariant
