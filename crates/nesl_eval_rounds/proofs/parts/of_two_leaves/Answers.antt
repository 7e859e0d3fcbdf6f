use Rattle.std.proofs.Common.{drop, [], ◌∷◌}
use Rattle.std.proofs.lemmas.Result.{err_from_is_err_and}
use Rattle.nesl_eval_code.specs.Exec.{leaf_out, with_leaves, made_of}
use Rattle.nesl_eval_ops.specs.View.{leaf_is, two_is}
use Rattle.nesl_eval_nodes.specs.Meets.{Is}
use Rattle.nesl_eval_nodes.proofs.Runs.{meets_then, meets_err}
use Rattle.nesl_eval_rounds.specs.Slots.{places_of}
use Rattle.nesl_eval_rounds.proofs.parts.of_two_leaves.Goals as goal

pub returns-in_err-value-clause-meets : goal.returns-in_err-value-clause-meets
returns-in_err-value-clause-meets g c =
    let s = c.args.sight.now in
    let t = g.T.Tops.table s.tops.now in
    let k = c.args.node.now in
    let env = drop s.base (places_of s.slots.now.items) in
    let I = Is {A = g.row.A.Denot} in
    let p = err_from_is_err_and c.from_residual.result c.from_residual.ensures.1 in
    rw (p.1, p.2) (meets_err I I c.args.meter.now c.enter_leaf.new.meter c.in_err-value.field-0.0
    (leaf_out t s.levels k.height env (leaf_is c.args.left.now)) (λ v. with_leaves t s.levels k.height env (v ∷ []) (leaf_is c.args.right.now ∷ []) (made_of k.span (two_is k.two))) c.in_err-value.ensures.meets)

pub returns-clause-meets : goal.returns-clause-meets
returns-clause-meets g c =
    let s = c.args.sight.now in
    let t = g.T.Tops.table s.tops.now in
    let k = c.args.node.now in
    let env = drop s.base (places_of s.slots.now.items) in
    let I = Is {A = g.row.A.Denot} in
    meets_then I I c.args.meter.now c.enter_leaf.new.meter c.of_value_and_leaf.new.meter c.in_ok-value.value c.of_value_and_leaf.result
    (leaf_out t s.levels k.height env (leaf_is c.args.left.now)) (λ v. with_leaves t s.levels k.height env (v ∷ []) (leaf_is c.args.right.now ∷ []) (made_of k.span (two_is k.two))) c.in_ok-value.ensures.meets
    (λ x e. rw (← e) c.of_value_and_leaf.ensures.meets)
