use Rattle.std.proofs.Common.{◌+◌, ◌*◌}
use denote.Param.Weighed.{most}
use Rattle.nesl_syntax_tree.specs.declared.tree.Exp.{Exp}
use Rattle.nesl_syntax_tree.specs.declared.tree.Binding.{Binding}
use Rattle.nesl_syntax_tree.proofs.tree.Exp.TheLaws as exp
use Rattle.nesl_syntax_tree.proofs.tree.Binding.TheLaws as binding
use Rattle.nesl_infer.proofs.uses.+note_in.Given as goal

abbrev pub decreases-note_in : goal.decreases-note_in
decreases-note_in g l = 4 * exp.the_size l.exp.now

abbrev pub decreases-note_in_items : goal.decreases-note_in_items
decreases-note_in_items g l = 4 * most (λ (e : Exp). exp.the_size e) l.items.now + 1

abbrev pub decreases-note_in_bindings : goal.decreases-note_in_bindings
decreases-note_in_bindings g l = 4 * most (λ (b : Binding). binding.the_size b) l.bindings.now + 1
