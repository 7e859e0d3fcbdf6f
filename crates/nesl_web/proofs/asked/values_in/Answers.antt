use Rattle.std.proofs.Common.{[]}
use Rattle.std.specs.Prelude.{map}
use Rattle.nesl_web.specs.Route.{values_in}
use Rattle.nesl_web.proofs.AskedLemmas.{is_complete, is_partial, if_ok_then, takes_no_room, takes_nothing, takes_values}
use Rattle.nesl_web.proofs.asked.values_in.Goals as goal

pub returns-in-Ok-Complete : goal.returns-in-Ok-Complete
returns-in-Ok-Complete c =
    if_ok_then c.values_of.result _ _ c.values_of.ensures (λ values e. takes_values c.args.head.now c.args.name.now c.parse_request.new.headers c.in-Ok-Complete.request (map (λ value. value.now) values.items) (is_complete _ c.in-Ok-Complete.field-0 c.in-Ok-Complete.request c.in-Ok-Complete.field-0-is c.in-Ok-Complete.ensures.complete) e)

pub returns-in-Ok-Partial : goal.returns-in-Ok-Partial
returns-in-Ok-Partial c = rw c.new.ensures.items (takes_nothing c.args.head.now (values_in c.args.name.now) [] (is_partial _ c.in-Ok-Partial.field-0 c.in-Ok-Partial.field-0-is c.in-Ok-Partial.ensures.partial))

pub returns-in-Err : goal.returns-in-Err
returns-in-Err c = rw c.new-in-Err.ensures.items (takes_no_room c.args.head.now (values_in c.args.name.now) [] c.in-Err.ensures.no_room)
