use Rattle.std.proofs.Common.{take}
use Rattle.std.specs.List.{AllByRecursion}
use Rattle.nesl_eval_top_level.specs.TopLevels.{table_in}
use Rattle.nesl_eval.specs.Reached.{Grows, Marks}
use Rattle.nesl_eval.proofs.reached.Reached.+marking.Given as goal

abbrev pub invariant-go_through_all-loop-code : goal.invariant-go_through_all-loop-code
invariant-go_through_all-loop-code l = record {
  grows : Grows l.fn.self.marks.items l.self.marks.items l.fn.self.queue.items l.self.queue.items;
  marked : AllByRecursion (Marks (table_in l.tops) l.self.marks.items) (take l.code-index l.codes);
}
