use Rattle.std.proofs.Common.{refl}
use Rattle.nesl_eval_code.proofs.Noting.{noted_more}
use Rattle.nesl_eval_code.proofs.names.note_name.Goals as goal

pub returns : goal.returns
returns c =
    noted_more c.args.names.now.entries c.insert.new.self.entries c.in_ok-key.key (record { index = c.args.index; steps = c.in_ok-steps.steps })
    c.in_ok-insert.ensures.entries c.args.name.now c.args.index c.args.path.now c.in_ok-key.ensures.items refl c.in_ok-steps.ensures.items
