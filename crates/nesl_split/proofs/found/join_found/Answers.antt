use Rattle.std.proofs.Common.{refl, Global, Ok, Err}
use Rattle.std.proofs.lemmas.Result.{err_from_is_err_and}
use Rattle.nesl_eval_nodes.specs.Sides.{Has}
use Rattle.nesl_eval_rounds.specs.Leads.{ArePlaces}
use Rattle.nesl_split.specs.declared.found.Wanted.TheVariants.{Places, Values}
use Rattle.nesl_split.specs.declared.found.Found.TheVariants as found
use Rattle.nesl_split.specs.Finding.{Are}
use Rattle.nesl_split.proofs.Finding.{meets_as, err_as, joins}
use Rattle.nesl_split.proofs.found.join_found.Goals as goal

pub returns-in_err-places-in-Places-clause-meets : goal.returns-in_err-places-in-Places-clause-meets
returns-in_err-places-in-Places-clause-meets c =
    let m = c.args.meter.now in
    let n = c.join_places.new.meter in
    let l = c.half_of_places in
    let r = c.half_of_places-in-Places in
    let p = err_from_is_err_and c.from_residual.result c.from_residual.ensures.1 in
    rw (p.1, p.2) (joins Places c.args.wanted (ArePlaces {A = Global}) m n c.args.left c.args.right l.result r.result (Err c.in_err-places-in-Places.field-0.0) (Err c.in_err-places-in-Places.field-0.0) c.in-Places.is l.ensures.cost r.ensures.cost l.ensures.meets r.ensures.meets c.in_err-places-in-Places.ensures.meets
    (λ o h. err_as (ArePlaces {A = Global}) (Are Places) m n c.in_err-places-in-Places.field-0.0 o h))

pub returns-in_err-values-in-Values-clause-meets : goal.returns-in_err-values-in-Values-clause-meets
returns-in_err-values-in-Values-clause-meets c =
    let m = c.args.meter.now in
    let n = c.join_values.new.meter in
    let l = c.half_of_values in
    let r = c.half_of_values-in-Values in
    let p = err_from_is_err_and c.from_residual-in_err-values-in-Values.result c.from_residual-in_err-values-in-Values.ensures.1 in
    rw (p.1, p.2) (joins Values c.args.wanted (Has {A = Global}) m n c.args.left c.args.right l.result r.result (Err c.in_err-values-in-Values.field-0.0) (Err c.in_err-values-in-Values.field-0.0) c.in-Values.is l.ensures.cost r.ensures.cost l.ensures.meets r.ensures.meets c.in_err-values-in-Values.ensures.meets
    (λ o h. err_as (Has {A = Global}) (Are Values) m n c.in_err-values-in-Values.field-0.0 o h))

pub returns-in_ok-places-in-Places-clause-meets : goal.returns-in_ok-places-in-Places-clause-meets
returns-in_ok-places-in-Places-clause-meets c =
    let m = c.args.meter.now in
    let n = c.join_places.new.meter in
    let l = c.half_of_places in
    let r = c.half_of_places-in-Places in
    (joins Places c.args.wanted (ArePlaces {A = Global}) m n c.args.left c.args.right l.result r.result (Ok c.in_ok-places-in-Places.places) (Ok (found.Places c.in_ok-places-in-Places.places)) c.in-Places.is l.ensures.cost r.ensures.cost l.ensures.meets r.ensures.meets c.in_ok-places-in-Places.ensures.meets
    (λ o h. meets_as (ArePlaces {A = Global}) (Are Places) m n c.in_ok-places-in-Places.places (found.Places c.in_ok-places-in-Places.places) o (λ xs e. (refl, e)) h))

pub returns-in_ok-values-in-Values-clause-meets : goal.returns-in_ok-values-in-Values-clause-meets
returns-in_ok-values-in-Values-clause-meets c =
    let m = c.args.meter.now in
    let n = c.join_values.new.meter in
    let l = c.half_of_values in
    let r = c.half_of_values-in-Values in
    (joins Values c.args.wanted (Has {A = Global}) m n c.args.left c.args.right l.result r.result (Ok c.in_ok-values-in-Values.values) (Ok (found.Values c.in_ok-values-in-Values.values)) c.in-Values.is l.ensures.cost r.ensures.cost l.ensures.meets r.ensures.meets c.in_ok-values-in-Values.ensures.meets
    (λ o h. meets_as (Has {A = Global}) (Are Values) m n c.in_ok-values-in-Values.values (found.Values c.in_ok-values-in-Values.values) o (λ xs e. (refl, e)) h))
