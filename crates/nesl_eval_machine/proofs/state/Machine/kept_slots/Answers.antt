use Rattle.std.proofs.Common.{sym}
use Rattle.nesl_eval_machine.proofs.Binding.{last_frame, no_frame}
use Rattle.nesl_eval_machine.proofs.state.Machine.kept_slots.Goals as goal

pub returns-in-Some : goal.returns-in-Some
returns-in-Some g c = sym (last_frame c.args.self.now.frames.items c.in-Some.frame.now (sym (rw c.deref.ensures.value at c.in-Some.ensures.value)))

pub returns-in-None : goal.returns-in-None
returns-in-None g c = sym (no_frame c.args.self.now.frames.items (sym (rw c.deref.ensures.value at c.in-None.ensures.value)))
