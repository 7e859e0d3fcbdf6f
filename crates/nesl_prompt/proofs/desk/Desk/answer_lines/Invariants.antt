use Rattle.std.proofs.Common.{◌≡◌, length}
use Rattle.nesl_prompt.specs.Points.{WasGiven}
use Rattle.nesl_prompt.proofs.desk.Desk.answer_lines.Given as goal

abbrev pub invariant-lines : goal.invariant-lines
invariant-lines g l = record {
  said : WasGiven l.fn.session l.session;
  style : l.self.style ≡ l.fn.self.style;
}

abbrev pub decreases-lines : goal.decreases-lines
decreases-lines g l = length l.rest
