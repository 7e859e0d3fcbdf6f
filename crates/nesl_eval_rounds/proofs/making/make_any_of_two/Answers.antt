use Rattle.std.proofs.Common.{◌≡◌}
use Rattle.std.proofs.lemmas.Result.{err_from_is_err_and}
use Rattle.nesl_values.specs.Tree.{ValueTree, pair}
use Rattle.nesl_values.specs.View.{tree_of}
use Rattle.nesl_eval_meaning.specs.Outcome.{small_enough, apply_builtin}
use Rattle.nesl_eval_nodes.specs.Meets.{Is}
use Rattle.nesl_eval_nodes.proofs.Runs.{meets_then, meets_err}
use Rattle.nesl_eval_rounds.proofs.making.make_any_of_two.Goals as goal

pub returns-in_err-fit_in_pair-in-OfPair-clause-meets : goal.returns-in_err-fit_in_pair-in-OfPair-clause-meets
returns-in_err-fit_in_pair-in-OfPair-clause-meets g c =
    let m = c.args.meter.now in
    let z = pair (tree_of c.args.left) (tree_of c.args.right) in
    let U : Unit {0} → ValueTree → Type 0 = λ u x. x ≡ z in
    let p = err_from_is_err_and c.from_residual.result c.from_residual.ensures.1 in
    rw (p.1, p.2, c.in-OfPair.is, ← c.whole-in-OfPair.ensures) (meets_err U (Is {A = g.row.A.Denot}) m m c.in_err-fit_in_pair-in-OfPair.field-0.0
    (small_enough c.whole-in-OfPair.result z) (apply_builtin c.args.node.now.span c.in-OfPair.function) (c.in_err-fit_in_pair-in-OfPair.ensures m))

pub returns-in_ok-fit_in_pair-in-OfPair-clause-meets : goal.returns-in_ok-fit_in_pair-in-OfPair-clause-meets
returns-in_ok-fit_in_pair-in-OfPair-clause-meets g c =
    let m = c.args.meter.now in
    let z = pair (tree_of c.args.left) (tree_of c.args.right) in
    let U : Unit {0} → ValueTree → Type 0 = λ u x. x ≡ z in
    rw (c.in-OfPair.is, ← c.whole-in-OfPair.ensures) (meets_then U (Is {A = g.row.A.Denot}) m m c.apply_to_both-in-OfPair.new.meter tt c.apply_to_both-in-OfPair.result
    (small_enough c.whole-in-OfPair.result z) (apply_builtin c.args.node.now.span c.in-OfPair.function) (c.in_ok-fit_in_pair-in-OfPair.ensures m) (λ x e. rw (e, ← c.whole-in-OfPair-2.ensures) c.apply_to_both-in-OfPair.ensures.meets))

pub returns-in-Pair-clause-meets : goal.returns-in-Pair-clause-meets
returns-in-Pair-clause-meets g c = rw (c.in-Pair.is, ← c.whole-in-Pair.ensures) (c.make_pair.ensures c.args.meter.now)
