use Rattle.std.proofs.Common.{List, sym, subst}
use Rattle.nesl_syntax_tree.specs.Views.{tree_of}
use Rattle.nesl_infer_names.specs.Names.{Names, OwnName}
use Rattle.nesl_infer.specs.Verdicts.{AnswersVerdict, IsTypeBy}
use Rattle.nesl_infer_rules.specs.Contexts.{AreClosed}
use Rattle.nesl_eval_top_level.specs.Stored.{Entry, top_of}
use Rattle.nesl_session_bindings.proofs.Readers.{known_there}
use Rattle.nesl_session_bindings.proofs.bindings.Bindings.infer_exp.Goals as goal

pub infer_exp-requires : goal.infer_exp-requires
infer_exp-requires c =
    subst (λ (es : List Entry). AreClosed es) (sym c.context.ensures) (c.inferred_lines_keep_types.ensures.closed top_of c.self.inside.env c.self.invariant.sound)

pub returns : goal.returns
returns c =
    subst (λ (k : OwnName → Names). AnswersVerdict (λ t. t) (IsTypeBy k (tree_of c.args.exp.now)) c.infer_exp.result)
    (known_there c.context.result.now c.self.inside.env c.args.self.now c.self.invariant.fit c.context.ensures c.self.view_is) c.infer_exp.ensures
