use Rattle.std.proofs.Common.{◌≡◌, ◌<◌, ◌+◌, ◌*◌, ℕ, List, max, take, map, length}
use denote.Param.Weighed.{most}
use Rattle.std.specs.Prelude.{All}
use Rattle.nesl_syntax_tree.specs.Views.{trees_in, binders_in}
use Rattle.nesl_infer_rules.specs.Steps.{Adds, AddsNames, Gives, count, scope_at, world_at}
use Rattle.nesl_infer_rules.specs.Typing.{HaveType, BindingsAdd, HaveElements}
use Rattle.nesl_syntax_tree.specs.declared.tree.Exp.{Exp}
use Rattle.nesl_syntax_tree.specs.declared.tree.Binding.{Binding}
use Rattle.nesl_syntax_tree.proofs.tree.Exp.TheLaws as exp
use Rattle.nesl_syntax_tree.proofs.tree.Binding.TheLaws as binding
use Rattle.nesl_infer.proofs.constrain.+constrain.Given as goal

abbrev size : Exp → ℕ
size e = exp.the_size e

abbrev most_of : List Binding → ℕ
most_of bs = most (λ (b : Binding). binding.the_size b) bs

abbrev pub decreases-constrain : goal.decreases-constrain
decreases-constrain g l = 4 * size l.exp.now

abbrev pub decreases-constrain_part : goal.decreases-constrain_part
decreases-constrain_part g l = 4 * size l.exp.now + 1

abbrev pub decreases-constrain_exactly : goal.decreases-constrain_exactly
decreases-constrain_exactly g l = 4 * size l.exp.now + 1

abbrev pub decreases-constrain_bounds : goal.decreases-constrain_bounds
decreases-constrain_bounds g l = 4 * max (size l.from.now) (size l.to.now) + 1

abbrev pub decreases-constrain_items : goal.decreases-constrain_items
decreases-constrain_items g l = 4 * most (λ (e : Exp). size e) l.items.now + 1

abbrev pub decreases-constrain_bindings : goal.decreases-constrain_bindings
decreases-constrain_bindings g l = 4 * most_of l.bindings.now + 1

abbrev pub decreases-constrain_values : goal.decreases-constrain_values
decreases-constrain_values g l = 4 * most_of l.bindings.now + 1

abbrev pub decreases-constrain_binders : goal.decreases-constrain_binders
decreases-constrain_binders g l = 4 * most_of l.bindings.now + 2

abbrev pub decreases-constrain_let : goal.decreases-constrain_let
decreases-constrain_let g l = 4 * max (most_of l.bindings.now) (size l.body.now) + 2

abbrev pub decreases-constrain_each : goal.decreases-constrain_each
decreases-constrain_each g l = 4 * max (size l.body.now) (most_of l.bindings.now) + 3

abbrev pub decreases-constrain_filtered_items : goal.decreases-constrain_filtered_items
decreases-constrain_filtered_items g l = 4 * max (size l.body.now) (max (most_of l.bindings.now) (size l.filter.now)) + 3

abbrev pub invariant-constrain_items-loop-item : goal.invariant-constrain_items-loop-item
invariant-constrain_items-loop-item g l = record {
  adds : Adds l.initial.state l.state (λ s of. HaveType (world_at l.outer.context.now l.outer.own s of) (scope_at s l.initial.locals) (trees_in (take l.item-index l.items)) (s l.target));
  locals : l.locals ≡ l.initial.locals;
}

abbrev pub invariant-constrain_bindings-loop-binding : goal.invariant-constrain_bindings-loop-binding
invariant-constrain_bindings-loop-binding g l =
    AddsNames l.initial.state l.state l.initial.locals l.locals (λ s of ns. BindingsAdd (world_at l.outer.context.now l.outer.own s of) (scope_at s l.initial.locals) (binders_in (take l.binding-index l.bindings)) ns)

abbrev pub invariant-constrain_values-loop-binding : goal.invariant-constrain_values-loop-binding
invariant-constrain_values-loop-binding g l = record {
  gives : Gives l.initial.state l.state (λ s. map s l.items.items) (λ s of is. HaveElements (world_at l.outer.context.now l.outer.own s of) (scope_at s l.initial.locals) (binders_in (take l.binding-index l.bindings)) is);
  below : All (λ v. v < count l.state) l.items.items;
  len : length l.items.items ≡ l.binding-index;
  locals : l.locals ≡ l.initial.locals;
}
