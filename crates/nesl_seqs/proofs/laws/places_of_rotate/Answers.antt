use Rattle.nesl_seqs.proofs.Moves.{places_of_rotate}
use Rattle.nesl_seqs.proofs.laws.places_of_rotate.Goals as goal

pub returns : goal.returns
returns c = places_of_rotate
