use Rattle.std.proofs.Common.{Global, Ok, ap, ◌∙◌, refl, subst, map}
use Rattle.std.specs.Prelude.{slice_range}
use Rattle.nesl_values.specs.View.{tree_of}
use Rattle.nesl_eval_code.specs.Run.{run, run_filters, run_bodies}
use Rattle.nesl_eval_nodes.specs.Sides.{places_of, Has}
use Rattle.nesl_eval_nodes.specs.Scopes.{frames_of}
use Rattle.nesl_eval_nodes.specs.Meets.{Meets}
use Rattle.nesl_eval_rounds.specs.Leads.{ArePlaces}
use Rattle.nesl_split.specs.declared.found.Wanted.TheVariants.{Places, Values}
use Rattle.nesl_split.specs.declared.found.Found.TheVariants as found
use Rattle.nesl_split.specs.Intervals.{at_turn}
use Rattle.nesl_split.proofs.Finding.{in_other_words}
use Rattle.nesl_split.proofs.Columned.{filters_found, bodies_found}
use Rattle.nesl_split.proofs.columns.find_by_columns.Goals as goal

pub returns-in_ok-places-in-Places-clause-meets : goal.returns-in_ok-places-in-Places-clause-meets
returns-in_ok-places-in-Places-clause-meets g c =
    let i = c.args.interval.now in
    let m = c.args.meter.now in
    let x = c.filters_in_columns in
    let s = c.in_ok-scope in
    let l = c.in_ok-laid.laid in
    let t = g.T.Tops.table i.crew.now.tops.now in
    let v = c.in_ok-places-in-Places.places in
    let same = ap (λ n. run_filters (run n t) (frames_of s.scope) (map tree_of i.sources.now) l.code.now (slice_range (places_of i.places) c.args.turns.from c.args.turns.to)) c.saturating_sub-levels.ensures
    ∙ filters_found g.T.Tops.table i (frames_of s.scope) l.height l.sizes.now l.code.now c.args.turns.from c.args.turns.to s.ensures.0 s.ensures.1 c.in_ok-laid.ensures in
    in_other_words Places i.wanted (ArePlaces {A = Global}) m x.new.meter v (found.Places v) (at_turn g.T.Tops.table i) (slice_range (places_of i.places) c.args.turns.from c.args.turns.to) c.in-Places.is (λ xs e. (refl, e))
    (subst (λ o. Meets (ArePlaces {A = Global}) m (Ok v) x.new.meter o) same c.in_ok-places-in-Places.ensures.meets)

pub returns-in_ok-values-in-Values-clause-meets : goal.returns-in_ok-values-in-Values-clause-meets
returns-in_ok-values-in-Values-clause-meets g c =
    let i = c.args.interval.now in
    let m = c.args.meter.now in
    let x = c.bodies_in_columns in
    let s = c.in_ok-scope in
    let l = c.in_ok-laid.laid in
    let t = g.T.Tops.table i.crew.now.tops.now in
    let v = c.in_ok-values-in-Values.values in
    let same = ap (λ n. run_bodies (run n t) (frames_of s.scope) (map tree_of i.sources.now) l.code.now (slice_range (places_of i.places) c.args.turns.from c.args.turns.to)) c.saturating_sub-levels.ensures
    ∙ bodies_found g.T.Tops.table i (frames_of s.scope) l.height l.sizes.now l.code.now c.args.turns.from c.args.turns.to s.ensures.0 s.ensures.1 c.in_ok-laid.ensures in
    in_other_words Values i.wanted (Has {A = Global}) m x.new.meter v (found.Values v) (at_turn g.T.Tops.table i) (slice_range (places_of i.places) c.args.turns.from c.args.turns.to) c.in-Values.is (λ xs e. (refl, e))
    (subst (λ o. Meets (Has {A = Global}) m (Ok v) x.new.meter o) same c.in_ok-values-in-Values.ensures.meets)
