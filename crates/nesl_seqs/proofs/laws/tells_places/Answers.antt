use Rattle.nesl_seqs.proofs.Forms.{places_of_permute}
use Rattle.nesl_seqs.proofs.laws.tells_places.Goals as goal

pub returns : goal.returns
returns c = places_of_permute
