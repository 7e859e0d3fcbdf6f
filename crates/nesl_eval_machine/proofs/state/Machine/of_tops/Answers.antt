use Rattle.std.proofs.Common.{refl, List, Err, [], ◌∷◌}
use Rattle.nesl_values.specs.View.{tree_of}
use Rattle.nesl_eval_meaning.specs.Names.{Value}
use Rattle.nesl_eval_meaning.specs.Out.{Out}
use Rattle.nesl_eval_code.specs.Block.{make}
use Rattle.nesl_eval_code.specs.Exec.{exec}
use Rattle.nesl_eval_ops.specs.View.{block_of, two_is}
use Rattle.nesl_eval_nodes.specs.declared.meter.Stop.TheVariants.{Stuck}
use Rattle.nesl_eval_machine.specs.State.{env_of}
use Rattle.nesl_eval_machine.proofs.Hands.{popped_moves, none_moves}
use Rattle.nesl_eval_machine.proofs.state.Machine.of_tops.Goals as goal

pub returns-in-Some : goal.returns-in-Some
returns-in-Some g c = λ t fits.
    let m = c.args.self.now in
    let k = c.args.node.now in
    let f : List Value → Out Value = λ vs. exec t m.levels (env_of m) (make k.height k.span (two_is k.two) 2 [] (block_of c.args.next.now)) (tree_of c.args.right ∷ vs) in
    popped_moves t m c.of_both.new.self c.pop.new.self c.in-Some.left c.of_both.result f c.in-Some.ensures.items refl fits (λ h. c.of_both.ensures t h)

pub returns-in-None : goal.returns-in-None
returns-in-None g c = λ t fits.
    let m = c.args.self.now in
    let k = c.args.node.now in
    let f : List Value → Out Value = λ vs. exec t m.levels (env_of m) (make k.height k.span (two_is k.two) 2 [] (block_of c.args.next.now)) (tree_of c.args.right ∷ vs) in
    none_moves t m (record m { stack = c.pop.new.self }) (Err Stuck) f c.in-None.ensures.cases.0 refl
