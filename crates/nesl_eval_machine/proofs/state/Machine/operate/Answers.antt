use Rattle.std.proofs.Common.{refl, sym, subst, ◌∙◌, ◌∷◌, []}
use Rattle.nesl_eval_code.specs.Block.{make, of_one}
use Rattle.nesl_eval_ops.specs.View.{block_of, leaf_is, two_is}
use Rattle.nesl_eval_machine.specs.State.{left_at}
use Rattle.nesl_eval_machine.specs.Steps.{Moves}
use Rattle.nesl_eval_machine.proofs.state.Machine.operate.Goals as goal

pub returns-in-OfLeaf : goal.returns-in-OfLeaf
returns-in-OfLeaf g c = λ fits.
    let t = g.T.Tops.table c.args.tops.now in
    let m = c.args.self.now in
    let n = c.of_leaf.new.self in
    let k = c.in-OfLeaf.node in
    let next = c.ops-in-OfLeaf.ensures ∙ c.deref-in-OfLeaf.ensures in
    let done = subst (λ x. Moves t m c.of_leaf.result n (left_at t m (make k.height k.span (of_one k.function) 0 (leaf_is c.in-OfLeaf.leaf ∷ []) x))) next (c.of_leaf.ensures fits) in
    subst (λ b. Moves t m c.of_leaf.result n (left_at t m (block_of b))) (sym c.in-OfLeaf.is) done

pub returns-in-OfLeaves : goal.returns-in-OfLeaves
returns-in-OfLeaves g c = λ fits.
    let t = g.T.Tops.table c.args.tops.now in
    let m = c.args.self.now in
    let n = c.of_leaves.new.self in
    let k = c.in-OfLeaves.node in
    let next = c.ops-in-OfLeaves.ensures ∙ c.deref-in-OfLeaves.ensures in
    let done = subst (λ x. Moves t m c.of_leaves.result n (left_at t m (make k.height k.span (two_is k.two) 0 (leaf_is c.in-OfLeaves.left ∷ leaf_is c.in-OfLeaves.right ∷ []) x))) next (c.of_leaves.ensures fits) in
    subst (λ b. Moves t m c.of_leaves.result n (left_at t m (block_of b))) (sym c.in-OfLeaves.is) done

pub returns-in-Finish : goal.returns-in-Finish
returns-in-Finish g c = λ fits. c.take_top.ensures.moves (g.T.Tops.table c.args.tops.now) (λ n env. rw c.in-Finish.is refl) fits

pub returns-in-OfTop : goal.returns-in-OfTop
returns-in-OfTop g c = λ fits. c.take_top-in-OfTop.ensures.moves (g.T.Tops.table c.args.tops.now) (λ n env. rw c.in-OfTop.is refl) fits

pub returns-in-OfTopAndLeaf : goal.returns-in-OfTopAndLeaf
returns-in-OfTopAndLeaf g c = λ fits. c.take_top-in-OfTopAndLeaf.ensures.moves (g.T.Tops.table c.args.tops.now) (λ n env. rw c.in-OfTopAndLeaf.is refl) fits

pub returns-in-OfTops : goal.returns-in-OfTops
returns-in-OfTops g c = λ fits. c.take_top-in-OfTops.ensures.moves (g.T.Tops.table c.args.tops.now) (λ n env. rw c.in-OfTops.is refl) fits

pub returns-in-Choose : goal.returns-in-Choose
returns-in-Choose g c = λ fits. c.take_top-in-Choose.ensures.moves (g.T.Tops.table c.args.tops.now) (λ n env. rw c.in-Choose.is refl) fits

pub returns-in-Last : goal.returns-in-Last
returns-in-Last g c = λ fits. c.take_top-in-Last.ensures.moves (g.T.Tops.table c.args.tops.now) (λ n env. rw c.in-Last.is refl) fits

pub returns-in-Call : goal.returns-in-Call
returns-in-Call g c = λ fits. c.take_top-in-Call.ensures.moves (g.T.Tops.table c.args.tops.now) (λ n env. rw c.in-Call.is refl) fits

pub returns-in-Bind : goal.returns-in-Bind
returns-in-Bind g c = λ fits. c.take_top-in-Bind.ensures.moves (g.T.Tops.table c.args.tops.now) (λ n env. rw c.in-Bind.is refl) fits
