use Rattle.std.proofs.Common.{None}
use Rattle.nesl_web.specs.Asked.{query_of}
use Rattle.nesl_web.proofs.AskedLemmas.{is_complete, is_partial, takes_no_room, takes_nothing, takes_query}
use Rattle.nesl_web.proofs.asked.query_of.Goals as goal

pub returns-in-Ok-Complete : goal.returns-in-Ok-Complete
returns-in-Ok-Complete c =
    takes_query c.args.head.now c.of.result.now c.parse_request.new.headers c.in-Ok-Complete.request _ (is_complete _ c.in-Ok-Complete.field-0 c.in-Ok-Complete.request c.in-Ok-Complete.field-0-is c.in-Ok-Complete.ensures.complete) c.of.ensures c.query_in.ensures

pub returns-in-Ok-Partial : goal.returns-in-Ok-Partial
returns-in-Ok-Partial c = takes_nothing c.args.head.now query_of None (is_partial _ c.in-Ok-Partial.field-0 c.in-Ok-Partial.field-0-is c.in-Ok-Partial.ensures.partial)

pub returns-in-Err : goal.returns-in-Err
returns-in-Err c = takes_no_room c.args.head.now query_of None c.in-Err.ensures.no_room
