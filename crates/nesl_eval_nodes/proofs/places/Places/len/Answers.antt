use Rattle.std.proofs.lemmas.List.FromFn.{length-range_with_len}
use Rattle.nesl_eval_nodes.proofs.places.Places.len.Goals as goal

pub returns-in-All : goal.returns-in-All
returns-in-All c = rw (c.in-All.is, length-range_with_len) c.in-All.len-is
