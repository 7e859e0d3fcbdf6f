use Rattle.std.proofs.Common.{ℕ, ap, ◌∙◌, drop}
use Rattle.std.specs.Prelude.{slice_range}
use Rattle.nesl_eval_nodes.specs.Sides.{places_of}
use Rattle.nesl_eval_rounds.proofs.Columned.{last_places}
use Rattle.nesl_eval_rounds.proofs.columns.turns_left.Goals as goal

pub returns-clause-places : goal.returns-clause-places
returns-clause-places g c =
    let r = c.args.round.now in
    let is = places_of c.places-places.result in
    ap (λ (k : ℕ). slice_range is k c.len-len.result) c.min.ensures
    ∙ last_places is r.turns c.len-len.result c.len-len.ensures ∙ ap (drop r.turns) c.places-places.ensures
