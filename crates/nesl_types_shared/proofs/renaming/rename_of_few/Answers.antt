use Rattle.std.proofs.Common.{length, replicate, take, false, ap, ◌∙◌}
use Rattle.std.proofs.lemmas.List.{take-replicate}
use Rattle.nesl_types_shared.proofs.renaming.rename_of_few.Goals as goal

pub mark_reached-requires-clause-none : goal.mark_reached-requires-clause-none
mark_reached-requires-clause-none c =
    ap (λ n. take n (replicate 16 false)) c.len-count.ensures.len ∙ take-replicate (length c.args.from.now) 16 false c.requires.few
