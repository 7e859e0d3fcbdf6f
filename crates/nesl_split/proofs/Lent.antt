-- The top level, which threads share.
use denote.Param.Send.{IsSync, sendable}
use Rattle.std.proofs.Crossing as standard
use Rattle.std.proofs.MapsCrossing as maps
use Rattle.nesl_lex.proofs.token.Span.TheSendSync as span_crosses
use Rattle.nesl_lex.proofs.token.Name.TheSendSync as name_crosses
use Rattle.nesl_syntax_tree.specs.contracts.tree.Exp as exp_row
use Rattle.nesl_syntax_tree.specs.contracts.tree.Pattern as pattern_row
use Rattle.nesl_syntax_tree.proofs.tree.Node.TheLaws.TheKnot as exp_knot
use Rattle.nesl_syntax_tree.proofs.tree.PatternNode.TheLaws.TheKnot as pattern_knot
use Rattle.nesl_syntax_tree.proofs.tree.TypeNode.TheLaws.TheKnot as type_knot
use Rattle.nesl_syntax_tree.proofs.tree.Operator.TheSendSync as operator_crosses
use Rattle.nesl_syntax_tree.proofs.tree.Prefix.TheSendSync as prefix_crosses
use Rattle.nesl_types_shared.specs.contracts.types.Ty as ty_row
use Rattle.nesl_types_shared.proofs.shape.Shape.TheSendSync as shape_crosses
use Rattle.nesl_types.proofs.classes.Class.TheSendSync as kind_crosses
use Rattle.nesl_types.specs.contracts.bindings.Top as kind_row
use Rattle.nesl_eval_top_level.specs.contracts.env.Payload as payload_row
use Rattle.nesl_values.proofs.node.Node.TheLaws.TheKnot as value_knot
use Rattle.nesl_types.specs.contracts.bindings.Entry as entry_row
use Rattle.nesl_types.specs.contracts.bindings.Context as context_row
use Rattle.nesl_types.specs.contracts.kept.Shared as shared_row
use Rattle.nesl_builtins.proofs.builtin.Builtin.TheSendSync as builtin_crosses
use Rattle.nesl_eval_code.specs.contracts.code.Code as code_row
use Rattle.nesl_eval_code.proofs.code.Code.TheLaws.TheKnot as code_knot
use Rattle.nesl_eval_code.proofs.code.Step.TheSendSync as step_crosses

pub code_sync : IsSync code_row.the_row
code_sync = search (sendable, standard.crosses, code_knot.crosses, span_crosses.the_field_sync, builtin_crosses.the_field_sync, step_crosses.the_sync) depth 20 fits 100000

pattern_sync : IsSync (pattern_row.the_field).row
pattern_sync = search (sendable, standard.crosses, pattern_knot.crosses, span_crosses.the_field_sync, name_crosses.the_field_sync) depth 20 fits 100000

exp_sync : IsSync (exp_row.the_field).row
exp_sync = search (sendable, standard.crosses, exp_knot.crosses, type_knot.crosses, pattern_knot.crosses, pattern_sync, span_crosses.the_field_sync, name_crosses.the_field_sync, operator_crosses.the_field_sync, prefix_crosses.the_field_sync) depth 20 fits 100000

ty_sync : IsSync ty_row.the_row
ty_sync = search (sendable, standard.crosses, shape_crosses.the_send, shape_crosses.the_sync) depth 20 fits 100000

kind_sync : IsSync (kind_row.the_field).row
kind_sync = search (sendable, standard.crosses, ty_sync, kind_crosses.the_sync) depth 20 fits 100000

pub payload_sync : IsSync payload_row.the_row
payload_sync = search (sendable, standard.crosses, value_knot.crosses, exp_sync, pattern_sync) depth 20 fits 100000

pub entry_sync : IsSync (entry_row.the_row payload_row.the_row)
entry_sync = search (sendable, standard.crosses, kind_sync, payload_sync) depth 20 fits 100000

shared_sync : IsSync shared_row.the_row
shared_sync = search (sendable, standard.crosses, ty_sync) depth 20

pub context_sync : IsSync (context_row.the_row payload_row.the_row)
context_sync = search (sendable, standard.crosses, maps.crosses, entry_sync, shared_sync) depth 40 fits 1000000
