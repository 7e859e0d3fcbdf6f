use Rattle.std.proofs.Common.{◌≡◌, length, map}
use Rattle.nesl_seqs_index.proofs.Permuting.{InvertsTo}
use Rattle.nesl_seqs_index.proofs.permute.inverse_of.Given as goal

abbrev pub invariant-loop-number : goal.invariant-loop-number
invariant-loop-number g l =
    (length l.sources.items ≡ length (map g.I.Item.tree l.indices)) × InvertsTo l.number l.sources.items (map g.I.Item.tree l.indices)
