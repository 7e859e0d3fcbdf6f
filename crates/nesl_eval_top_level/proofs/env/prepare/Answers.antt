use Rattle.std.proofs.Common.{◌∙◌, ap, subst, List, []}
use Rattle.nesl_syntax_tree.specs.Views.{tree_of}
use Rattle.nesl_eval_meaning.specs.Names.{Name}
use Rattle.nesl_eval_code.specs.Means.{Means}
use Rattle.nesl_eval_code.proofs.Resolved.{if_ok}
use Rattle.nesl_eval_top_level.specs.Stored.{names_in}
use Rattle.nesl_eval_top_level.proofs.env.prepare.Goals as goal

pub returns : goal.returns
returns c =
    if_ok c.code_of_expression.result c.code_of_expression.ensures (λ k h.
    subst (λ (ns : List Name). Means ns [] k (tree_of c.args.exp.now)) (c.names.ensures ∙ ap names_in c.env.view_is) h)
