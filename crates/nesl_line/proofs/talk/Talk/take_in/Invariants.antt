use Rattle.std.proofs.Common.{◌≡◌, ◌+◌, ◌≤◌, ℕ, List, Option, length, ◌++◌}
use Rattle.nesl_line.specs.Tally.{WriteTally, flushed_by}
use Rattle.nesl_line.specs.Steps.{Goes}
use Rattle.nesl_line.proofs.talk.Talk.take_in.Given as goal

abbrev pub invariant-loop-place : goal.invariant-loop-place
invariant-loop-place g l = record {
  talk : (taken : List ℕ) × (l.bytes ≡ taken ++ l.rest) × (l.self.lines ≤ l.fn.self.lines + length taken)
      × ((first : _) (start : _) (held : Option (List ℕ)) (read : List ℕ) → Goes (g.H.Hearer.heard first start l.fn.hearer l.fn.world) l.fn.self read held (g.W.Sink.held l.fn.writer)
      → Goes (g.H.Hearer.heard first start l.hearer l.world) l.self (read ++ taken) held (g.W.Sink.held l.writer));
  tally : (start : WriteTally) → g.W.Sink.tally l.fn.writer ≡ flushed_by l.fn.self.lines start → g.W.Sink.tally l.writer ≡ flushed_by l.self.lines start;
  ready : g.H.Hearer.ready l.hearer l.world;
}

abbrev pub decreases-loop-place : goal.decreases-loop-place
decreases-loop-place g l = length l.rest
