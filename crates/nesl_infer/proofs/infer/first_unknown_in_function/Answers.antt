use Rattle.std.proofs.Common.{◌≡◌, List, Some, sym, subst}
use Rattle.std.specs.Prelude.{IfOk}
use Rattle.nesl_lex.specs.declared.token.Span.{Span}
use Rattle.nesl_infer_names.specs.Firsts.{first}
use Rattle.nesl_infer_names.specs.Names.{names_in}
use Rattle.nesl_syntax_tree.specs.Views.{pattern_tree, tree_of}
use Rattle.nesl_infer.proofs.Walked.{function_by_uses}
use Rattle.nesl_infer.proofs.infer.first_unknown_in_function.Goals as goal

pub returns : goal.returns
returns g c =
    subst (λ (ss : List Span). IfOk c.unknown_in_function.result (λ r. r ≡ first ss))
    (sym (function_by_uses (names_in c.args.context.now (Some c.args.name.now)) (pattern_tree c.args.pattern.now) (tree_of c.args.body.now)))
    c.unknown_in_function.ensures
