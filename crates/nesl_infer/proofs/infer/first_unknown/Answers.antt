use Rattle.std.proofs.Common.{◌≡◌, [], List, None, sym, subst}
use Rattle.std.specs.Prelude.{IfOk}
use Rattle.nesl_lex.specs.declared.token.Span.{Span}
use Rattle.nesl_infer_names.specs.Firsts.{first}
use Rattle.nesl_infer_names.specs.Names.{names_in}
use Rattle.nesl_syntax_tree.specs.Views.{tree_of}
use Rattle.nesl_infer.proofs.Walked.{known_by_uses}
use Rattle.nesl_infer.proofs.infer.first_unknown.Goals as goal

pub returns : goal.returns
returns g c =
    subst (λ (ss : List Span). IfOk c.unknown_in_exp.result (λ r. r ≡ first ss))
    (sym (known_by_uses (names_in c.args.context.now None) [] (tree_of c.args.exp.now))) c.unknown_in_exp.ensures
