use Rattle.nesl_eval_top_level.specs.TopLevels.{table_in}
use Rattle.nesl_eval.specs.Copied.{AreCopies}
use Rattle.nesl_eval.proofs.copies.copied.Given as goal

abbrev pub invariant-loop-is_wanted : goal.invariant-loop-is_wanted
invariant-loop-is_wanted g l = AreCopies (table_in l.tops) l.values.items
