use Rattle.nesl_keep.proofs.Lines.{kept_lines}
use Rattle.nesl_keep.proofs.Crash.{settled}
use Rattle.nesl_keep.proofs.scroll.recover.Goals as goal

pub returns-in-Ok-clause-settled : goal.returns-in-Ok-clause-settled
returns-in-Ok-clause-settled g c =
    let e = c.in-Ok.ensures in
    (settled g.D.Device.seen g.D.Device.may_leave (record { device = c.rewrite.new.device; end = c.in-Ok.field-0.end; block = c.in-Ok.field-0.block }) _ (kept_lines (g.D.Device.seen c.args.opened.device)) e.file e.end e.durable).0

pub returns-in-Ok-clause-same : goal.returns-in-Ok-clause-same
returns-in-Ok-clause-same g c =
    let e = c.in-Ok.ensures in
    (settled g.D.Device.seen g.D.Device.may_leave (record { device = c.rewrite.new.device; end = c.in-Ok.field-0.end; block = c.in-Ok.field-0.block }) _ (kept_lines (g.D.Device.seen c.args.opened.device)) e.file e.end e.durable).1
