use Rattle.std.proofs.Common.{◌+◌, ◌*◌, ℕ, List, max}
use denote.Param.Weighed.{most}
use Rattle.nesl_syntax_tree.specs.declared.tree.Exp.{Exp}
use Rattle.nesl_syntax_tree.specs.declared.tree.Binding.{Binding}
use Rattle.nesl_syntax_tree.proofs.tree.Exp.TheLaws as exp
use Rattle.nesl_syntax_tree.proofs.tree.Binding.TheLaws as binding
use Rattle.nesl_hints_types.proofs.walk.Walk.+walk.Given as goal

abbrev size : Exp → ℕ
size e = exp.the_size e

abbrev most_of : List Binding → ℕ
most_of bs = most (λ (b : Binding). binding.the_size b) bs

abbrev pub decreases-check : goal.decreases-check
decreases-check l = 8 * size l.exp.now

abbrev pub decreases-check_two : goal.decreases-check_two
decreases-check_two l = 8 * max (size l.left.now) (size l.right.now) + 1

abbrev pub decreases-check_as : goal.decreases-check_as
decreases-check_as l = 8 * size l.exp.now + 1

abbrev pub decreases-check_items : goal.decreases-check_items
decreases-check_items l = 8 * most (λ (e : Exp). size e) l.items.now + 1

abbrev pub decreases-check_bindings : goal.decreases-check_bindings
decreases-check_bindings l = 8 * most_of l.bindings.now + 1

abbrev pub decreases-check_binders : goal.decreases-check_binders
decreases-check_binders l = 8 * most_of l.bindings.now + 2

abbrev pub decreases-check_drawn : goal.decreases-check_drawn
decreases-check_drawn l = 8 * most_of l.bindings.now + 1

abbrev pub decreases-check_each : goal.decreases-check_each
decreases-check_each l = 8 * max (size l.body.now) (most_of l.bindings.now) + 3

abbrev pub decreases-check_choice : goal.decreases-check_choice
decreases-check_choice l = 8 * max (size l.test.now) (max (size l.yes.now) (size l.no.now)) + 2

abbrev pub decreases-check_ends : goal.decreases-check_ends
decreases-check_ends l = 8 * max (size l.from.now) (size l.to.now) + 2

abbrev pub decreases-check_let : goal.decreases-check_let
decreases-check_let l = 8 * max (size l.body.now) (most_of l.bindings.now) + 2

abbrev pub decreases-check_filtered : goal.decreases-check_filtered
decreases-check_filtered l = 8 * max (size l.filter.now) (max (size l.body.now) (most_of l.bindings.now)) + 4

abbrev pub decreases-check_strided : goal.decreases-check_strided
decreases-check_strided l = 8 * max (size l.from.now) (max (size l.to.now) (size l.stride.now)) + 3

abbrev pub decreases-check_unfiltered : goal.decreases-check_unfiltered
decreases-check_unfiltered l = 8 * max (size l.body.now) (most_of l.bindings.now) + 4
