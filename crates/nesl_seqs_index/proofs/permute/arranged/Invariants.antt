use Rattle.std.proofs.Common.{◌≡◌, length, map}
use Rattle.nesl_seqs_index.proofs.Permuting.{ArriveTo}
use Rattle.nesl_seqs_index.proofs.permute.arranged.Given as goal

abbrev pub invariant-loop-number : goal.invariant-loop-number
invariant-loop-number g l =
    (length l.made.items ≡ length (map g.I.Item.tree l.indices)) × ArriveTo l.number l.items l.made.items (map g.I.Item.tree l.indices)
