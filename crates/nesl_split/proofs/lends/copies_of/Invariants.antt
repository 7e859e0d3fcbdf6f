use Rattle.nesl_eval.specs.Copied.{AreCopies}
use Rattle.nesl_split.proofs.lends.copies_of.Given as goal

abbrev pub invariant-loop-is_wanted : goal.invariant-loop-is_wanted
invariant-loop-is_wanted g l = AreCopies (g.T.Tops.table l.tops) l.copies.items
