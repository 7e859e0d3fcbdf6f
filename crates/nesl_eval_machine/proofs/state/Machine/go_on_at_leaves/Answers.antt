use Rattle.std.proofs.Common.{sym, subst, ◌∙◌, ◌∷◌, []}
use Rattle.nesl_eval_code.specs.Block.{make}
use Rattle.nesl_eval_ops.specs.View.{block_of, leaf_is, two_is}
use Rattle.nesl_eval_machine.specs.State.{left_at}
use Rattle.nesl_eval_machine.specs.Steps.{Moves}
use Rattle.nesl_eval_machine.proofs.Hands.{nothing_moves}
use Rattle.nesl_eval_machine.proofs.state.Machine.go_on_at_leaves.Goals as goal

pub returns-in-OfLeaves : goal.returns-in-OfLeaves
returns-in-OfLeaves g c = λ fits.
    let t = g.T.Tops.table c.args.tops.now in
    let m = c.args.self.now in
    let n = c.of_leaves.new.self in
    let k = c.in-OfLeaves.node in
    let next = c.ops.ensures ∙ c.deref.ensures in
    let done = subst (λ x. Moves t m c.of_leaves.result n (left_at t m (make k.height k.span (two_is k.two) 0 (leaf_is c.in-OfLeaves.left ∷ leaf_is c.in-OfLeaves.right ∷ []) x))) next (c.of_leaves.ensures fits) in
    subst (λ b. Moves t m c.of_leaves.result n (left_at t m (block_of b))) (sym c.in-OfLeaves.is) done

pub returns-in_default : goal.returns-in_default
returns-in_default g c = nothing_moves (g.T.Tops.table c.args.tops.now) c.args.self.now
