use Rattle.std.proofs.Common.{subst}
use Rattle.std.specs.Io.KnownBytes.{Appends}
use Rattle.nesl_kept.proofs.again.write_text.Goals as goal

pub returns-in-Ok-write : goal.returns-in-Ok-write
returns-in-Ok-write g c = (c.in-Ok.text.items, c.in-Ok.ensures, subst (Appends (g.W.Sink.held c.args.writer.now) (g.W.Sink.held c.write.new.writer)) c.as_slice.ensures.value c.in-Ok-write.ensures)
