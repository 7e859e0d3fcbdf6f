use Rattle.std.proofs.Common.{◌≡◌, length, take, map}
use Rattle.nesl_values.specs.View.{tree_of}
use Rattle.nesl_seqs_base.specs.Write.{writes_of}
use Rattle.nesl_seqs_index.proofs.Writing.{TellsLast}
use Rattle.nesl_seqs_index.proofs.write.last_writers.Given as goal

abbrev pub invariant-loop-number : goal.invariant-loop-number
invariant-loop-number g l =
    (length l.last ≡ 4096) × TellsLast (map tree_of l.pairs) l.last l.window (writes_of l.len (map tree_of (take l.number l.pairs)))
