-- Sessions go from thread to thread, so a table of them is shared.
use denote.Hole.{as_row}
use denote.Param.Send.{IsSend, IsSync, sendable}
use Rattle.std.proofs.Crossing as standard
use Rattle.std.proofs.MapsCrossing as maps
use Rattle.nesl_lex.proofs.token.Span.TheSendSync as span_crosses
use Rattle.nesl_lex.proofs.token.Name.TheSendSync as name_crosses
use Rattle.nesl_syntax_tree.specs.contracts.tree.Exp as exp_row
use Rattle.nesl_syntax_tree.specs.contracts.tree.Pattern as pattern_row
use Rattle.nesl_syntax_tree.proofs.tree.Node.TheLaws.TheKnot as exp_knot
use Rattle.nesl_syntax_tree.proofs.tree.PatternNode.TheLaws.TheKnot as pattern_knot
use Rattle.nesl_syntax_tree.proofs.tree.TypeNode.TheLaws.TheKnot as type_knot
use Rattle.nesl_syntax_tree.proofs.tree.Operator.TheSendSync as operator_crosses
use Rattle.nesl_syntax_tree.proofs.tree.Prefix.TheSendSync as prefix_crosses
use Rattle.nesl_types_shared.specs.contracts.types.Ty as ty_row
use Rattle.nesl_types_shared.proofs.shape.Shape.TheSendSync as shape_crosses
use Rattle.nesl_types.proofs.classes.Class.TheSendSync as kind_crosses
use Rattle.nesl_types.specs.contracts.bindings.Top as kind_row
use Rattle.nesl_types.specs.contracts.bindings.Entry as entry_row
use Rattle.nesl_types.specs.contracts.bindings.Context as context_row
use Rattle.nesl_types.specs.contracts.kept.Shared as shared_row
use Rattle.nesl_values.proofs.node.Node.TheLaws.TheKnot as value_knot
use Rattle.nesl_builtins.proofs.builtin.Builtin.TheSendSync as builtin_crosses
use Rattle.nesl_eval_code.specs.contracts.code.Code as code_row
use Rattle.nesl_eval_code.proofs.code.Code.TheLaws.TheKnot as code_knot
use Rattle.nesl_eval_code.proofs.code.Step.TheSendSync as step_crosses
use Rattle.nesl_eval_ops.specs.contracts.ops.Ops as ops_row
use Rattle.nesl_eval_ops.proofs.ops.Leaf.TheSendSync as leaf_crosses
use Rattle.nesl_eval_ops.proofs.spans.ShortSpan.TheSendSync as short_span_crosses
use Rattle.nesl_eval_ops.proofs.ops.Block.TheLaws.TheKnot as ops_knot
use Rattle.nesl_eval_top_level.specs.contracts.env.Payload as payload_row
use Rattle.nesl_eval_top_level.specs.contracts.env.Env as env_row
use Rattle.nesl_session.specs.contracts.session.Session as session_row
use Rattle.nesl_house.specs.contracts.table.Table as table_row

code_send : IsSend code_row.the_row
code_send = search (sendable, standard.crosses, code_knot.crosses, span_crosses.the_field_send, builtin_crosses.the_field_send, step_crosses.the_send) depth 20 fits 100000

code_field_send : IsSend (as_row code_row.the_field)
code_field_send = search (sendable, standard.crosses, code_knot.crosses, span_crosses.the_field_send, builtin_crosses.the_field_send, step_crosses.the_send) depth 20 fits 100000

ops_send : IsSend ops_row.the_row
ops_send = search (sendable, standard.crosses, ops_knot.crosses, code_field_send, leaf_crosses.the_send, span_crosses.the_field_send, short_span_crosses.the_send, builtin_crosses.the_field_send) depth 40 fits 1000000

pattern_send : IsSend (pattern_row.the_field).row
pattern_send = search (sendable, standard.crosses, pattern_knot.crosses, span_crosses.the_field_send, name_crosses.the_field_send) depth 20 fits 100000

exp_send : IsSend (exp_row.the_field).row
exp_send = search (sendable, standard.crosses, exp_knot.crosses, type_knot.crosses, pattern_knot.crosses, pattern_send, span_crosses.the_field_send, name_crosses.the_field_send, operator_crosses.the_field_send, prefix_crosses.the_field_send) depth 20 fits 100000

ty_send : IsSend ty_row.the_row
ty_send = search (sendable, standard.crosses, shape_crosses.the_send, shape_crosses.the_sync) depth 20 fits 100000

kind_send : IsSend (kind_row.the_field).row
kind_send = search (sendable, standard.crosses, ty_send, kind_crosses.the_send) depth 20 fits 100000

payload_send : IsSend payload_row.the_row
payload_send = search (sendable, standard.crosses, value_knot.crosses, exp_send, pattern_send) depth 20 fits 100000

entry_send : IsSend (entry_row.the_row payload_row.the_row)
entry_send = search (sendable, standard.crosses, kind_send, payload_send) depth 20 fits 100000

shared_send : IsSend shared_row.the_row
shared_send = search (sendable, standard.crosses, ty_send) depth 20

context_send : IsSend (context_row.the_row payload_row.the_row)
context_send = search (sendable, standard.crosses, maps.crosses, entry_send, shared_send) depth 40 fits 1000000

env_send : IsSend env_row.the_row
env_send = search (sendable, standard.crosses, maps.crosses, code_send, ops_send, context_send) depth 30 fits 100000

pub session_send : IsSend session_row.the_row
session_send = search (sendable, standard.crosses, env_send) depth 30 fits 100000

-- and they are read by many
code_sync : IsSync code_row.the_row
code_sync = search (sendable, standard.crosses, code_knot.crosses, span_crosses.the_field_sync, builtin_crosses.the_field_sync, step_crosses.the_sync) depth 20 fits 100000

code_field_sync : IsSync (as_row code_row.the_field)
code_field_sync = search (sendable, standard.crosses, code_knot.crosses, span_crosses.the_field_sync, builtin_crosses.the_field_sync, step_crosses.the_sync) depth 20 fits 100000

ops_sync : IsSync ops_row.the_row
ops_sync = search (sendable, standard.crosses, ops_knot.crosses, code_field_sync, leaf_crosses.the_sync, span_crosses.the_field_sync, short_span_crosses.the_sync, builtin_crosses.the_field_sync) depth 40 fits 1000000

pattern_sync : IsSync (pattern_row.the_field).row
pattern_sync = search (sendable, standard.crosses, pattern_knot.crosses, span_crosses.the_field_sync, name_crosses.the_field_sync) depth 20 fits 100000

exp_sync : IsSync (exp_row.the_field).row
exp_sync = search (sendable, standard.crosses, exp_knot.crosses, type_knot.crosses, pattern_knot.crosses, pattern_sync, span_crosses.the_field_sync, name_crosses.the_field_sync, operator_crosses.the_field_sync, prefix_crosses.the_field_sync) depth 20 fits 100000

ty_sync : IsSync ty_row.the_row
ty_sync = search (sendable, standard.crosses, shape_crosses.the_send, shape_crosses.the_sync) depth 20 fits 100000

kind_sync : IsSync (kind_row.the_field).row
kind_sync = search (sendable, standard.crosses, ty_sync, kind_crosses.the_sync) depth 20 fits 100000

payload_sync : IsSync payload_row.the_row
payload_sync = search (sendable, standard.crosses, value_knot.crosses, exp_sync, pattern_sync) depth 20 fits 100000

entry_sync : IsSync (entry_row.the_row payload_row.the_row)
entry_sync = search (sendable, standard.crosses, kind_sync, payload_sync) depth 20 fits 100000

shared_sync : IsSync shared_row.the_row
shared_sync = search (sendable, standard.crosses, ty_sync) depth 20

context_sync : IsSync (context_row.the_row payload_row.the_row)
context_sync = search (sendable, standard.crosses, maps.crosses, entry_sync, shared_sync) depth 40 fits 1000000

env_sync : IsSync env_row.the_row
env_sync = search (sendable, standard.crosses, maps.crosses, code_sync, ops_sync, context_sync) depth 30 fits 100000

pub session_sync : IsSync session_row.the_row
session_sync = search (sendable, standard.crosses, env_sync) depth 30 fits 100000

pub table_sync : IsSync table_row.the_row
table_sync = search (sendable, standard.crosses, session_send, session_sync) depth 30 fits 100000
