use Rattle.std.proofs.Common.{refl}
use Rattle.nesl_unify_graph.proofs.Matches.{matched_closed}
use Rattle.nesl_unify_graph.proofs.twins.match_variables.Goals as goal

pub returns-then-not-has_places : goal.returns-then-not-has_places
returns-then-not-has_places c = λ t whole.
    let old = c.args.pending.now.items in
    matched_closed c.args.instances.now c.args.twins t old old refl (c.if-not-has_places.ensures refl) whole
