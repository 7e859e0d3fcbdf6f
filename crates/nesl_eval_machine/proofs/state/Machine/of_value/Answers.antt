use Rattle.nesl_values.specs.View.{tree_of}
use Rattle.nesl_eval_meaning.specs.Outcome.{apply_builtin}
use Rattle.nesl_eval_machine.proofs.Hands.{found_moves}
use Rattle.nesl_eval_machine.proofs.state.Machine.of_value.Goals as goal

pub returns : goal.returns
returns g c = λ t fits.
    let m = c.args.self.now in
    found_moves t m c.apply_to_value-found.new.meter c.apply_to_value-found.result c.args.next c.in_hand.result
    (apply_builtin c.args.node.span c.args.node.function (tree_of c.args.value))
    c.in_hand.ensures c.apply_to_value-found.ensures.meets fits
