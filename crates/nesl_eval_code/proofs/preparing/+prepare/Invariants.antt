use Rattle.std.proofs.Common.{◌≡◌, ℕ, ◌+◌, ◌*◌, max, List, [], take}
use denote.Param.Weighed.{most}
use Rattle.nesl_syntax_tree.specs.declared.tree.Exp.{Exp}
use Rattle.nesl_syntax_tree.specs.declared.tree.Binding.{Binding}
use Rattle.nesl_syntax_tree.proofs.tree.Exp.TheLaws as exp
use Rattle.nesl_syntax_tree.proofs.tree.Binding.TheLaws as binding
use Rattle.nesl_syntax_tree.specs.Views.{trees_in, binders_in}
use Rattle.nesl_eval_meaning.specs.Outcome.{sources}
use Rattle.nesl_eval_code.specs.Means.{AllMean, BindingsMean}
use Rattle.nesl_eval_code.specs.Resolving.{layers_of, known}
use Rattle.nesl_eval_code.proofs.preparing.+prepare.Given as goal

abbrev size : Exp → ℕ
size e = exp.the_size e

abbrev most_of : List Binding → ℕ
most_of bs = most (λ (b : Binding). binding.the_size b) bs

abbrev pub decreases-code_of : goal.decreases-code_of
decreases-code_of l = 4 * size l.exp.now

abbrev pub decreases-boxed_code_of : goal.decreases-boxed_code_of
decreases-boxed_code_of l = 4 * size l.exp.now + 2

abbrev pub decreases-box_code_of : goal.decreases-box_code_of
decreases-box_code_of l = 4 * size l.exp.now + 1

abbrev pub decreases-code_of_applied : goal.decreases-code_of_applied
decreases-code_of_applied l = 4 * size l.argument.now + 3

abbrev pub decreases-code_of_prefix : goal.decreases-code_of_prefix
decreases-code_of_prefix l = 4 * size l.operand.now + 3

abbrev pub decreases-code_of_sequence : goal.decreases-code_of_sequence
decreases-code_of_sequence l = 4 * most (λ (e : Exp). size e) l.items.now + 3

abbrev pub decreases-code_of_pair : goal.decreases-code_of_pair
decreases-code_of_pair l = 4 * max (size l.left.now) (size l.right.now) + 3

abbrev pub decreases-code_of_two : goal.decreases-code_of_two
decreases-code_of_two l = 4 * max (size l.left.now) (size l.right.now) + 3

abbrev pub decreases-code_of_strided : goal.decreases-code_of_strided
decreases-code_of_strided l = 4 * max (size l.from.now) (max (size l.to.now) (size l.stride.now)) + 3

abbrev pub decreases-code_of_choice : goal.decreases-code_of_choice
decreases-code_of_choice l = 4 * max (size l.test.now) (max (size l.yes.now) (size l.no.now)) + 3

abbrev pub decreases-code_of_let : goal.decreases-code_of_let
decreases-code_of_let l = 4 * max (most_of l.bound.now) (size l.body.now) + 3

abbrev pub decreases-code_of_each : goal.decreases-code_of_each
decreases-code_of_each l = 4 * max (size l.body.now) (most_of l.drawn.now) + 3

abbrev pub decreases-code_of_filtered : goal.decreases-code_of_filtered
decreases-code_of_filtered l = 4 * max (size l.body.now) (max (most_of l.drawn.now) (size l.filter.now)) + 3

abbrev pub decreases-add_code : goal.decreases-add_code
decreases-add_code l = 4 * size l.exp.now + 1

abbrev pub decreases-codes_of : goal.decreases-codes_of
decreases-codes_of l = 4 * most (λ (e : Exp). size e) l.items.now + 2

abbrev pub decreases-codes_of_sources : goal.decreases-codes_of_sources
decreases-codes_of_sources l = 4 * most_of l.drawn.now + 2

abbrev pub decreases-codes_of_bindings : goal.decreases-codes_of_bindings
decreases-codes_of_bindings l = 4 * most_of l.bound.now + 2

abbrev pub invariant-codes_of-loop-item : goal.invariant-codes_of-loop-item
invariant-codes_of-loop-item l = AllMean (known l.at.places.now) (layers_of l.at.layers.now) l.codes.items (trees_in (take l.item-index l.items))

abbrev pub invariant-codes_of_sources-loop-binder : goal.invariant-codes_of_sources-loop-binder
invariant-codes_of_sources-loop-binder l = AllMean (known l.at.places.now) (layers_of l.at.layers.now) l.codes.items (sources (binders_in (take l.binder-index l.drawn)))

abbrev pub invariant-codes_of_bindings-loop-binding : goal.invariant-codes_of_bindings-loop-binding
invariant-codes_of_bindings-loop-binding l = record {
  codes : BindingsMean (known l.at.places.now) (layers_of l.at.layers.now) [] l.codes.items (binders_in (take l.binding-index l.bound));
  bound : l.frame.bound.now ≡ l.bound;
  seen : l.frame.seen ≡ l.binding-index;
}
