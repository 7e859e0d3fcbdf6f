use Rattle.std.proofs.Common.{◌≡◌, ◌≤◌, ◌-◌, length, take}
use Rattle.std.specs.Io.KnownBytes.{Appends}
use Rattle.nesl_line.specs.Steps.{written_by}
use Rattle.nesl_line.proofs.tell.send.Given as goal

abbrev pub invariant-loop-at : goal.invariant-loop-at
invariant-loop-at g l = record {
  within : l.at ≤ length l.bytes;
  sent : Appends (g.W.Sink.held l.fn.writer) (g.W.Sink.held l.writer) (take l.at l.bytes);
  tally : g.W.Sink.tally l.writer ≡ written_by l.at (g.W.Sink.tally l.fn.writer);
}

abbrev pub decreases-loop-at : goal.decreases-loop-at
decreases-loop-at g l = length l.bytes - l.at
