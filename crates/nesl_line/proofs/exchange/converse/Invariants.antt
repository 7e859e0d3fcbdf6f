use Rattle.std.proofs.Common.{◌≡◌, ◌*◌, ◌≤◌}
use Rattle.nesl_line.specs.Tally.{flushed_by}
use Rattle.nesl_line.specs.Steps.{SoFar}
use Rattle.nesl_line.proofs.Tallies.{ReadsMade}
use Rattle.nesl_line.proofs.exchange.converse.Given as goal

abbrev pub invariant-reads : goal.invariant-reads
invariant-reads g l = record {
  so_far : SoFar (g.S.Source.left l.fn.reader) (g.S.Source.left l.reader) (g.W.Sink.held l.fn.writer) (g.W.Sink.held l.writer) (g.H.Hearer.heard l.fn.hearer l.fn.world l.hearer l.world) l.talk;
  ready : g.H.Hearer.ready l.hearer l.world;
  reads : ReadsMade l.read_count (g.S.Source.tally l.fn.reader) (g.S.Source.tally l.reader);
  writes : g.W.Sink.tally l.writer ≡ flushed_by l.talk.lines (g.W.Sink.tally l.fn.writer);
  few : l.talk.lines ≤ l.read_count * 4096;
}
