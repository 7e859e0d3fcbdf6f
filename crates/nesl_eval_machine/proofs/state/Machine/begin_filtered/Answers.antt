use Rattle.std.proofs.Common.{Ok, Err, Some, List, ◌∷◌, subst}
use Rattle.nesl_eval_meaning.specs.Names.{Value}
use Rattle.nesl_eval_meaning.specs.Out.{Out, and_then}
use Rattle.nesl_eval_code.specs.Exec.{exec, at_places}
use Rattle.nesl_eval_ops.specs.View.{block_of, body_block}
use Rattle.nesl_eval_nodes.specs.declared.meter.Stop.TheVariants.{Stuck}
use Rattle.nesl_eval_machine.specs.State.{in_rounds, env_of}
use Rattle.nesl_eval_machine.specs.Steps.{TakesOff}
use Rattle.nesl_eval_machine.proofs.Taking.{many_taken, few_taken}
use Rattle.nesl_eval_machine.proofs.state.Machine.begin_filtered.Goals as goal

pub returns-in-Some : goal.returns-in-Some
returns-in-Some g c = λ fits.
    let t = g.T.Tops.table c.args.tops.now in
    let m = c.args.self.now in
    let n = c.begin.new.self in
    let s = c.take_off.new.stack in
    let f : List Value × List Value → Out Value =
    λ p. and_then (at_places c.args.node.span p.0 (in_rounds t m.levels (env_of m) p.0 (body_block c.args.filter.now) (Some c.args.body))) (λ v. exec t m.levels (env_of m) (block_of c.args.next.now) (v ∷ p.1)) in
    let taken = subst (λ r. TakesOff m.stack.items s.items c.args.node.count (Ok r)) c.in-Some.is c.in_ok-sources.ensures in
    many_taken t m n (block_of n.code.now) s c.in-Some.sources.items c.begin.result c.args.node.count f taken.0 taken.1 fits (λ h. c.begin.ensures h)

pub returns-in-None : goal.returns-in-None
returns-in-None g c = λ fits.
    let t = g.T.Tops.table c.args.tops.now in
    let m = c.args.self.now in
    let s = c.take_off.new.stack in
    let f : List Value × List Value → Out Value =
    λ p. and_then (at_places c.args.node.span p.0 (in_rounds t m.levels (env_of m) p.0 (body_block c.args.filter.now) (Some c.args.body))) (λ v. exec t m.levels (env_of m) (block_of c.args.next.now) (v ∷ p.1)) in
    let fewer = subst (λ r. TakesOff m.stack.items s.items c.args.node.count (Ok r)) c.in-None.is c.in_ok-sources.ensures in
    few_taken {U = Unit {0}} t m (record m { stack = s }) (block_of m.code.now) (Err Stuck) c.args.node.count f fewer
