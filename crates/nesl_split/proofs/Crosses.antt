-- What threads may share.
use denote.Hole.{as_row}
use denote.RattleType.{RattleType}
use denote.Ref.{NamedLft}
use denote.Param.Send.{IsSync, sendable}
use Rattle.std.proofs.Crossing as standard
use Rattle.std.specs.contracts.alloc.Global as heap
use Rattle.std.specs.contracts.impls.GlobalAllocator.TheImpl.{ghosts}
use Rattle.nesl_values.specs.contracts.value.Value as value_row
use Rattle.nesl_values.proofs.node.Node.TheLaws.TheKnot as value_knot
use Rattle.nesl_lex.proofs.token.Span.TheSendSync as span_crosses
use Rattle.nesl_builtins.proofs.builtin.Builtin.TheSendSync as builtin_crosses
use Rattle.nesl_eval_code.proofs.code.Step.TheSendSync as step_crosses
use Rattle.nesl_eval_ops.specs.contracts.ops.Ops as ops_row
use Rattle.nesl_eval_code.specs.contracts.code.Code as code_row
use Rattle.nesl_eval_code.proofs.code.Code.TheLaws.TheKnot as code_knot
use Rattle.nesl_eval_ops.specs.contracts.ops.Body as body_row
use Rattle.nesl_eval_ops.proofs.ops.Leaf.TheSendSync as leaf_crosses
use Rattle.nesl_eval_ops.proofs.spans.ShortSpan.TheSendSync as short_span_crosses
use Rattle.nesl_eval_ops.proofs.ops.Block.TheLaws.TheKnot as ops_knot
use Rattle.nesl_split.specs.contracts.turns.Interval as interval_row
use Rattle.nesl_split.proofs.crew.Crew.TheSendSync as crew_crosses
use Rattle.nesl_split.proofs.found.Wanted.TheSendSync as wanted_crosses

pub value_sync : IsSync (value_row.the_row heap.the_row ghosts)
value_sync = search (sendable, standard.crosses, value_knot.crosses) depth 20

code_sync : IsSync (as_row code_row.the_field)
code_sync = search (sendable, standard.crosses, code_knot.crosses, span_crosses.the_field_sync, builtin_crosses.the_field_sync, step_crosses.the_sync) depth 20 fits 100000

pub ops_sync : IsSync ops_row.the_row
ops_sync = search (sendable, standard.crosses, ops_knot.crosses, code_sync, leaf_crosses.the_sync, span_crosses.the_field_sync, short_span_crosses.the_sync, builtin_crosses.the_field_sync) depth 40 fits 1000000

pub body_sync : IsSync body_row.the_row
body_sync = search (sendable, standard.crosses, ops_knot.crosses, code_sync, leaf_crosses.the_sync, span_crosses.the_field_sync, short_span_crosses.the_sync, builtin_crosses.the_field_sync) depth 40 fits 1000000

-- places, with their surroundings
pub interval_sync : (a : NamedLft) (R H G T : RattleType) → IsSync R → IsSync H → IsSync G → IsSync T → IsSync (interval_row.the_row a R H G T)
interval_sync a R H G T r h g t = search (sendable, standard.crosses, value_sync, ops_sync, body_sync, crew_crosses.the_sync, wanted_crosses.the_field_sync) depth 20
