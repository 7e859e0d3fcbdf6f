use Rattle.std.proofs.lemmas.Result.{err_from_is_err_and}
use Rattle.std.proofs.Common.{◌≡◌, ◌++◌, subst, length, max, Ok}
use Rattle.std.specs.Prelude.{MatchResult}
use Rattle.nesl_values_builder.specs.Elements.{elements_of}
use Rattle.nesl_eval_nodes.specs.declared.meter.Stop.TheVariants.{Memory}
use Rattle.nesl_eval_rounds.specs.Rounds.{chosen_places}
use Rattle.nesl_split.specs.declared.found.Found.{Found}
use Rattle.nesl_split.proofs.Left.{FindsLeft, left_stops, left_places, left_values}
use Rattle.nesl_split.proofs.rounds.end_turns.Goals as goal

pub returns-in_err-places : goal.returns-in_err-places
returns-in_err-places c = λ t n b env st m flat h.
    let p = err_from_is_err_and c.from_residual.result c.from_residual.ensures.1 in
    rw (p.1, p.2) (left_stops t n b env st c.args.round.now m c.args.meter (Unit {0}) c.in_err-places.field-0.0 _ (subst (λ x. FindsLeft t n env c.args.round.now c.args.round.now.body m x c.args.meter) c.in_err-places.was h))

pub returns-in-Places : goal.returns-in-Places
returns-in-Places c = λ t n b env st m flat h.
    let r = c.args.round.now in
    let h1 = subst (λ x. FindsLeft t n env r r.body m x c.args.meter) c.in_ok-places.was h in
    let h2 = subst (λ (f : Found). FindsLeft t n env r r.body m (Ok f) c.args.meter) c.in-Places.is h1 in
    left_places t n b env st c.args.round.now m c.args.meter c.in-Places.places c.deref.result.now c.add_places.new.self c.add_places.result flat c.deref.ensures.value h2
    (subst (λ d. MatchResult c.add_places.result (λ x. (c.add_places.new.self ≡ record r { kept = c.add_places.new.self.kept; turns = length (chosen_places r.chosen); most = max r.most d }) × (c.add_places.new.self.kept.items ≡ r.kept.items ++ c.deref.result.now)) (λ e. e ≡ Memory)) c.depth.ensures.depth c.add_places.ensures)

pub returns-in-Values : goal.returns-in-Values
returns-in-Values c = λ t n b env st m flat h.
    let r = c.args.round.now in
    let h1 = subst (λ x. FindsLeft t n env r r.body m x c.args.meter) c.in_ok-places.was h in
    let h2 = subst (λ (f : Found). FindsLeft t n env r r.body m (Ok f) c.args.meter) c.in-Values.is h1 in
    left_values t n b env st c.args.round.now m c.args.meter c.in-Values.values c.add_values.new.self c.add_values.result flat h2
    (subst (λ d. MatchResult c.add_values.result (λ x. (c.add_values.new.self ≡ record r { values = c.add_values.new.self.values; turns = length (chosen_places r.chosen); most = max r.most d }) × (elements_of c.add_values.new.self.values ≡ elements_of r.values ++ elements_of c.in-Values.values)) (λ e. e ≡ Memory)) c.depth-in-Values.ensures.depth c.add_values.ensures)
