use Rattle.std.proofs.Common.{[], ◌∷◌}
use Rattle.nesl_values.specs.View.{tree_of}
use Rattle.nesl_eval_code.specs.Exec.{made_of}
use Rattle.nesl_eval_ops.specs.View.{two_is}
use Rattle.nesl_eval_machine.proofs.Hands.{found_moves}
use Rattle.nesl_eval_machine.proofs.state.Machine.of_both.Goals as goal

pub returns : goal.returns
returns g c = λ t fits.
    let m = c.args.self.now in
    found_moves t m c.make_of_two-found.new.meter c.make_of_two-found.result c.args.next c.in_hand.result
    (made_of c.args.node.now.span (two_is c.args.node.now.two) (tree_of c.args.left ∷ tree_of c.args.right ∷ []))
    c.in_hand.ensures c.make_of_two-found.ensures.meets fits
