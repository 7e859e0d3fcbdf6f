use Rattle.std.specs.Io.KnownBytes.{Keeps}
use Rattle.nesl_line.proofs.again.flush_again.Given as goal

abbrev pub invariant-tries : goal.invariant-tries
invariant-tries g l = Keeps (g.T.Write.contents l.initial.writer) (g.T.Write.contents l.writer)
