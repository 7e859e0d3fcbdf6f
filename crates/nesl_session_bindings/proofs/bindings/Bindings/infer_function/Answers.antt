use Rattle.std.proofs.Common.{List, option_map, sym, subst}
use Rattle.nesl_syntax_tree.specs.Views.{pattern_tree, signature_tree, tree_of}
use Rattle.nesl_builtins.specs.FunctionTypes.{function_type}
use Rattle.nesl_infer_names.specs.Names.{Names, OwnName}
use Rattle.nesl_infer.specs.Verdicts.{AnswersVerdict, IsFunctionBy}
use Rattle.nesl_infer_rules.specs.Contexts.{AreClosed}
use Rattle.nesl_eval_top_level.specs.Stored.{Entry, top_of}
use Rattle.nesl_session_bindings.proofs.Readers.{known_there}
use Rattle.nesl_session_bindings.proofs.bindings.Bindings.infer_function.Goals as goal

pub infer_function-requires : goal.infer_function-requires
infer_function-requires c =
    subst (λ (es : List Entry). AreClosed es) (sym c.context.ensures) (c.inferred_lines_keep_types.ensures.closed top_of c.self.inside.env c.self.invariant.sound)

pub returns : goal.returns
returns c =
    subst (λ (k : OwnName → Names).
    AnswersVerdict function_type (IsFunctionBy k c.args.name.now (pattern_tree c.args.pattern.now) (option_map signature_tree c.args.signature.now) (tree_of c.args.body.now)) c.infer_function.result)
    (known_there c.context.result.now c.self.inside.env c.args.self.now c.self.invariant.fit c.context.ensures c.self.view_is) c.infer_function.ensures
