use Rattle.nesl_values.proofs.Trees.{sizes-ints, sizes-bools, sizes-chars}
use Rattle.nesl_seqs_base.proofs.nodes.item_nodes.Goals as goal

pub returns-in-Ints : goal.returns-in-Ints
returns-in-Ints g c = rw (c.in-Ints.is, sizes-ints c.in-Ints.ints.now) c.leaves.ensures

pub returns-in-Bools : goal.returns-in-Bools
returns-in-Bools g c = rw (c.in-Bools.is, sizes-bools c.in-Bools.bools.now) c.leaves-in-Bools.ensures

pub returns-in-Chars : goal.returns-in-Chars
returns-in-Chars g c = rw (c.in-Chars.is, sizes-chars c.in-Chars.chars.now) c.leaves-in-Chars.ensures
