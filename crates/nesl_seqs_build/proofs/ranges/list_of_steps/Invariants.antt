use Rattle.std.proofs.Common.{◌≡◌, ◌≤◌, length, map}
use Rattle.std.specs.Vec.{vec_capacity}
use Rattle.nesl_values.specs.Tree.{int}
use Rattle.nesl_seqs_base.specs.Ranges.{progression}
use Rattle.nesl_seqs_build.proofs.ranges.list_of_steps.Given as goal

abbrev pub invariant-loop-place : goal.invariant-loop-place
invariant-loop-place g l = record {
  made : map int l.made.items ≡ progression l.numbers.first l.numbers.step l.place;
  len : length l.made.items ≡ l.place;
  room : l.numbers.count ≤ vec_capacity l.made;
}
