use Rattle.std.proofs.Common.{subst, List}
use Rattle.nesl_syntax_tree.specs.Views.{tree_of}
use Rattle.nesl_eval_code.specs.Means.{Means, Layer}
use Rattle.nesl_eval_code.specs.Resolving.{known}
use Rattle.nesl_eval_code.proofs.Resolved.{if_ok, layers-Top}
use Rattle.nesl_eval_code.proofs.preparing.code_of_expression.Goals as goal

pub returns : goal.returns
returns c =
    if_ok c.code_of.result c.code_of.ensures (λ k h.
    subst (λ (ls : List Layer). Means (known c.args.places.now) ls k (tree_of c.args.exp.now)) layers-Top h)
