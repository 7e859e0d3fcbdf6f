use Rattle.std.proofs.Common.{List, ◌∷◌, Ok, Err, Global, map, subst}
use Rattle.std.proofs.lemmas.Result.{err_from_is_err_and}
use Rattle.nesl_values.specs.Tree.{ValueTree}
use Rattle.nesl_eval_meaning.specs.Out.{Out, and_then}
use Rattle.nesl_eval_code.specs.Exec.{exec, at_places}
use Rattle.nesl_eval_ops.specs.View.{block_of, body_block}
use Rattle.nesl_eval_nodes.specs.declared.meter.Stop.TheVariants.{Stuck}
use Rattle.nesl_eval_machine.specs.State.{in_rounds, env_of, frames_of}
use Rattle.nesl_eval_machine.specs.Steps.{TakesOff}
use Rattle.nesl_eval_machine.proofs.Taking.{few_taken}
use Rattle.nesl_eval_machine.proofs.Stepping.{memory_any}
use Rattle.nesl_split.specs.declared.reached.Reached.TheVariants.{Round}
use Rattle.nesl_split.proofs.Reaching.{many_reach, first_reached}
use Rattle.nesl_split.proofs.reached.begin_each.Goals as goal

pub returns-in_err-values : goal.returns-in_err-values
returns-in_err-values c = λ t fits.
    let m = c.args.machine.now in
    let p = err_from_is_err_and c.from_residual.result c.from_residual.ensures.1 in
    rw (p.1, p.2, c.in_err-values.ensures) (memory_any (frames_of m) m.meter.fuel m.meter.fuel _)

pub returns-in_default : goal.returns-in_default
returns-in_default c = λ t fits.
    let m = c.args.machine.now in
    let a = c.args.parts.now in
    let s = c.take_off.new.stack in
    let f : List ValueTree × List ValueTree → Out ValueTree =
    λ p. and_then (at_places a.span p.0 (in_rounds t m.levels (env_of m) p.0 (body_block a.block.now) a.body)) (λ v. exec t m.levels (env_of m) (block_of a.next.now) (v ∷ p.1)) in
    let fewer = subst (λ r. TakesOff m.stack.items s.items a.count (Ok r)) c.in_default.is c.in_ok-values.ensures in
    few_taken {U = Unit {0}} t m (record m { stack = s }) (block_of m.code.now) (Err Stuck) a.count f fewer

pub returns-in_err-round : goal.returns-in_err-round
returns-in_err-round c = λ t fits.
    let m = c.args.machine.now in
    let a = c.args.parts.now in
    let s = c.take_off.new.stack in
    let f : List ValueTree × List ValueTree → Out ValueTree =
    λ p. and_then (at_places a.span p.0 (in_rounds t m.levels (env_of m) p.0 (body_block a.block.now) a.body)) (λ v. exec t m.levels (env_of m) (block_of a.next.now) (v ∷ p.1)) in
    let off = subst (λ r. TakesOff m.stack.items s.items a.count (Ok r)) c.in-Some.is c.in_ok-values.ensures in
    let p = err_from_is_err_and c.from_residual-in_err-round.result c.from_residual-in_err-round.ensures.1 in
    rw (p.1, p.2) (many_reach t m (record m { stack = s }) s c.in-Some.values.items (Err c.in_err-round.field-0.0) a.count f off.0 off.1 fits (λ h. c.in_err-round.ensures t (block_of a.next.now)))

pub returns : goal.returns
returns c = λ t fits.
    let m = c.args.machine.now in
    let a = c.args.parts.now in
    let s = c.take_off.new.stack in
    let f : List ValueTree × List ValueTree → Out ValueTree =
    λ p. and_then (at_places a.span p.0 (in_rounds t m.levels (env_of m) p.0 (body_block a.block.now) a.body)) (λ v. exec t m.levels (env_of m) (block_of a.next.now) (v ∷ p.1)) in
    let off = subst (λ r. TakesOff m.stack.items s.items a.count (Ok r)) c.in-Some.is c.in_ok-values.ensures in
    many_reach t m (record m { stack = s }) s c.in-Some.values.items (Ok (Round c.in_ok-round.round a.next)) a.count f off.0 off.1 fits (λ h. first_reached t (record m { stack = s }) c.in_ok-round.round a.next _ (c.in_ok-round.ensures t (block_of a.next.now)) h)
