use Rattle.std.proofs.Common.{subst}
use Rattle.nesl_syntax_tree.specs.Views.{type_tree}
use Rattle.nesl_infer_names.specs.Names.{Names, OwnName}
use Rattle.nesl_infer.specs.Verdicts.{AnswersVerdict, IsContentBy}
use Rattle.nesl_session_bindings.proofs.Readers.{known_there}
use Rattle.nesl_session_bindings.proofs.bindings.Bindings.infer_datatype.Goals as goal

pub returns : goal.returns
returns c =
    subst (λ (k : OwnName → Names). AnswersVerdict (λ t. t) (IsContentBy k (type_tree c.args.written.now)) c.infer_datatype.result)
    (known_there c.context.result.now c.self.inside.env c.args.self.now c.self.invariant.fit c.context.ensures c.self.view_is) c.infer_datatype.ensures
