use Rattle.std.proofs.Common.{◌∙◌, ap}
use Rattle.std.specs.Prelude.{option_map}
use Rattle.nesl_eval_code.proofs.Placed.{placed_still, placed_own}
use Rattle.nesl_eval_code.proofs.places.place_of.Goals as goal

pub returns-in-Some : goal.returns-in-Some
returns-in-Some c = placed_still (option_map (λ x. x.now) c.args.places.now.own) c.args.places.now.names.now c.args.name.now c.in-Some.place c.in-Some.ensures

pub returns-in-Some-own : goal.returns-in-Some-own
returns-in-Some-own c =
    placed_own (option_map (λ x. x.now) c.args.places.now.own) c.in-Some-own.own.now c.args.places.now.names.now c.args.name.now c.len.result c.last_place.result
    (ap (option_map (λ x. x.now)) c.in-Some-own.is) c.in-None.ensures c.len.ensures c.last_place.ensures
