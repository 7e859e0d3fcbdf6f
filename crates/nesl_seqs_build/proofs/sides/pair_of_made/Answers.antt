use Rattle.nesl_seqs_build.proofs.Unzipping.{pair_alike}
use Rattle.nesl_seqs_build.proofs.sides.pair_of_made.Goals as goal

pub returns-in-Ok-Ok : goal.returns-in-Ok-Ok
returns-in-Ok-Ok g c a b =
    pair_alike c.pair.result c.args.lefts c.args.rights c.in-Ok-Ok.lefts c.in-Ok-Ok.rights a b c.in-Ok-Ok.is-0 c.in-Ok-Ok.is-1 c.pair.ensures
