use Rattle.std.proofs.Common.{Err, Ok, List, ◌∷◌, subst}
use Rattle.std.proofs.lemmas.Result.{err_from_is_err_and}
use Rattle.nesl_eval_meaning.specs.Names.{Value}
use Rattle.nesl_eval_meaning.specs.Out.{Out, and_then}
use Rattle.nesl_eval_code.specs.Exec.{exec, made_of}
use Rattle.nesl_eval_ops.specs.View.{block_of, many_is}
use Rattle.nesl_eval_nodes.specs.declared.meter.Stop.TheVariants.{Stuck}
use Rattle.nesl_eval_machine.specs.State.{env_of, frames_of}
use Rattle.nesl_eval_machine.specs.Steps.{TakesOff}
use Rattle.nesl_eval_machine.proofs.Stepping.{memory_any}
use Rattle.nesl_eval_machine.proofs.Taking.{few_taken}
use Rattle.nesl_eval_machine.proofs.Hands.{many_moves}
use Rattle.nesl_eval_machine.proofs.state.Machine.of_all_tops.Goals as goal

pub returns-in_err-values : goal.returns-in_err-values
returns-in_err-values g c = λ t fits.
    let m = c.args.self.now in
    let p = err_from_is_err_and c.from_residual.result c.from_residual.ensures.1 in
    rw (p.1, p.2, c.in_err-values.ensures) (memory_any (frames_of m) m.meter.fuel m.meter.fuel _)

pub returns-in-Some : goal.returns-in-Some
returns-in-Some g c = λ t fits.
    let m = c.args.self.now in
    let k = c.args.node in
    let n = c.of_all.new.self in
    let s = c.take_off.new.stack in
    let f : List Value × List Value → Out Value =
    λ p. and_then (made_of k.span (many_is k.many) p.0) (λ v. exec t m.levels (env_of m) (block_of c.args.next.now) (v ∷ p.1)) in
    let taken = subst (λ r. TakesOff m.stack.items s.items c.args.count (Ok r)) c.in-Some.is c.in_ok-values.ensures in
    many_moves t m n s c.in-Some.values.items c.of_all.result c.args.count f taken.0 taken.1 fits (λ h. c.of_all.ensures t h)

pub returns-in-None : goal.returns-in-None
returns-in-None g c = λ t fits.
    let m = c.args.self.now in
    let k = c.args.node in
    let s = c.take_off.new.stack in
    let f : List Value × List Value → Out Value =
    λ p. and_then (made_of k.span (many_is k.many) p.0) (λ v. exec t m.levels (env_of m) (block_of c.args.next.now) (v ∷ p.1)) in
    let fewer = subst (λ r. TakesOff m.stack.items s.items c.args.count (Ok r)) c.in-None.is c.in_ok-values.ensures in
    few_taken {U = Unit {0}} t m (record m { stack = s }) (block_of m.code.now) (Err Stuck) c.args.count f fewer
