use Rattle.std.proofs.Common.{◌≡◌, take}
use Rattle.nesl_cost_shown.specs.Parts.{work_within, depth_within}
use Rattle.nesl_cost_shown.proofs.parts.part_of.Given as goal

abbrev pub invariant-loop-row : goal.invariant-loop-row
invariant-loop-row l = record {
  span : l.part.span ≡ l.fn.span;
  work : l.part.work ≡ work_within l.fn.span (take l.row-index l.rows);
  depth : l.part.depth ≡ depth_within l.fn.span (take l.row-index l.rows);
}
