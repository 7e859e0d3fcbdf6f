use Rattle.std.proofs.Common.{refl, sym, inr, arith, ◌∷◌, []}
use Rattle.std.proofs.lemmas.List.{append-nil}
use Rattle.nesl_eval_meaning.specs.Names.{Value}
use Rattle.nesl_eval_meaning.specs.Out.{Out, after_cost, and_then}
use Rattle.nesl_eval_code.specs.Exec.{exec}
use Rattle.nesl_eval_ops.specs.View.{block_of}
use Rattle.nesl_eval_machine.specs.State.{slots_of, env_of, local_of}
use Rattle.nesl_eval_rounds.proofs.Laws.{then_after}
use Rattle.nesl_eval_machine.proofs.Entering.{entered_block}
use Rattle.nesl_eval_machine.proofs.state.Machine.go_into.Goals as goal

pub returns-clause-steps : goal.returns-clause-steps
returns-clause-steps g c = λ t fits.
    let m = c.args.self.now in
    let o = exec t m.levels (env_of m) (block_of c.args.block.now) [] in
    let k : Value → Out Value = λ x. exec t m.levels (env_of m) (block_of c.args.next.now) (x ∷ local_of m) in
    inr (entered_block t m _ c.keep_frame.new.frames (block_of c.args.block.now) m.slots [] m.base m.levels m.meter
    (after_cost 0 m.meter.depth (and_then o k))
    c.in_ok-keep_frame.ensures (omega (arith, c.len.ensures, m.slots.ok.0)) (omega (arith, c.len-2.ensures, m.stack.ok.0)) fits.2 (sym (append-nil (slots_of m))) fits.2 refl fits
    (sym (then_after 0 m.meter.depth o k)))
