use Rattle.std.proofs.Common.{map}
use Rattle.nesl_values.specs.View.{tree_of}
use Rattle.nesl_eval_code.specs.Exec.{made_of}
use Rattle.nesl_eval_ops.specs.View.{many_is}
use Rattle.nesl_eval_machine.proofs.Hands.{found_moves}
use Rattle.nesl_eval_machine.proofs.state.Machine.of_all.Goals as goal

pub returns : goal.returns
returns g c = λ t fits.
    let m = c.args.self.now in
    found_moves t m c.make_of_many-found.new.meter c.make_of_many-found.result c.args.next c.in_hand.result
    (made_of c.args.node.span (many_is c.args.node.many) (map tree_of c.args.values.items))
    c.in_hand.ensures c.make_of_many-found.ensures.meets fits
