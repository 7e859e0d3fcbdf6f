use Rattle.nesl_values.specs.View.{tree_of}
use Rattle.std.proofs.Common.{subst, sym}
use Rattle.nesl_eval_nodes.specs.Meets.{Meets}
use Rattle.nesl_split.specs.declared.found.Found.{Found}
use Rattle.nesl_split.specs.declared.found.Found.TheVariants as found
use Rattle.nesl_split.specs.Finding.{IsOf, Adds, of_value}
use Rattle.nesl_split.proofs.Finding.{place_adds, value_adds}
use Rattle.nesl_split.proofs.found.Found.add.Goals as goal

pub returns-in-Places-clause-meets : goal.returns-in-Places-clause-meets
returns-in-Places-clause-meets c = λ w is_of.
    let is_of' = subst (IsOf w) c.in-Places.is is_of in
    let h = place_adds w c.in-Places.kept c.keep_place.new.kept c.args.place (tree_of c.args.value) c.args.meter.now c.args.meter.now c.keep_place.result is_of' (c.keep_place.ensures c.args.meter.now) in
    subst (λ (f : Found). Meets (Adds w f (found.Places c.keep_place.new.kept)) c.args.meter.now c.keep_place.result c.args.meter.now (of_value w c.args.place (tree_of c.args.value))) (sym c.in-Places.is) h

pub returns-in-Values-clause-meets : goal.returns-in-Values-clause-meets
returns-in-Values-clause-meets c = λ w is_of.
    let is_of' = subst (IsOf w) c.in-Values.is is_of in
    let h = value_adds w c.in-Values.values c.add_value.new.values c.args.place (tree_of c.args.value) c.args.meter.now c.add_value.new.meter c.add_value.result is_of' c.add_value.ensures.meets in
    subst (λ (f : Found). Meets (Adds w f (found.Values c.add_value.new.values)) c.args.meter.now c.add_value.result c.add_value.new.meter (of_value w c.args.place (tree_of c.args.value))) (sym c.in-Values.is) h
