use Rattle.std.proofs.Common.{rules}
use Rattle.nesl_syntax_tree.specs.declared.tree.Node.TheViews.{the_lemmas}
use Rattle.nesl_syntax_tree.proofs.Rows.{row_of_binders_is}
use Rattle.nesl_syntax_tree.proofs.parts.lists.let_node.Goals as goal

pub returns : goal.returns
returns c = search (rules, the_lemmas, row_of_binders_is)
