use Rattle.std.proofs.Common.{ap, sym, ◌∙◌}
use Rattle.nesl_eval_nodes.specs.declared.meter.Stop.TheVariants.{Fault}
use Rattle.nesl_eval_machine.specs.State.{frames_of}
use Rattle.nesl_eval_machine.specs.Steps.{placed_stop, first_call}
use Rattle.nesl_eval_machine.proofs.Whole.{placed_is}
use Rattle.nesl_eval_machine.proofs.state.Machine.place_stop.Goals as goal

pub returns-in-Fault : goal.returns-in-Fault
returns-in-Fault g c =
    let m = c.args.self.now in
    ap (λ s. Fault c.in-Fault.trap s) (c.outermost.ensures ∙ ap (λ l. first_call l c.in-Fault.span) c.deref.ensures.value ∙ sym (placed_is m.frames.items c.in-Fault.span))
    ∙ ap (placed_stop (frames_of m)) (sym c.in-Fault.is)
