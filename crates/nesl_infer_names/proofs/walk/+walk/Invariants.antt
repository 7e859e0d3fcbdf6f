use Rattle.std.proofs.Common.{◌≡◌, ◌+◌, ◌*◌, ◌++◌, ℕ, List, max, drop}
use denote.Param.Weighed.{most}
use Rattle.std.specs.Option.{option_map}
use Rattle.nesl_syntax_tree.specs.declared.tree.Exp.{Exp}
use Rattle.nesl_syntax_tree.specs.declared.tree.Binding.{Binding}
use Rattle.nesl_syntax_tree.specs.Views.{trees_in, binders_in}
use Rattle.nesl_syntax_tree.proofs.tree.Exp.TheLaws as exp
use Rattle.nesl_syntax_tree.proofs.tree.Binding.TheLaws as binding
use Rattle.nesl_infer_names.specs.Firsts.{first, earlier}
use Rattle.nesl_infer_names.specs.Names.{names_in, all_names_bound, all_unknown_names, unknown_in_let, unknown_in_each}
use Rattle.nesl_infer_names.specs.Scopes.{locals}
use Rattle.nesl_infer_names.proofs.walk.+walk.Given as goal

abbrev size : Exp → ℕ
size e = exp.the_size e

abbrev most_of : List Binding → ℕ
most_of bs = most (λ (b : Binding). binding.the_size b) bs

abbrev pub decreases-walk : goal.decreases-walk
decreases-walk g l = 4 * size l.exp.now

abbrev pub decreases-walk_two : goal.decreases-walk_two
decreases-walk_two g l = 4 * max (size l.left.now) (size l.right.now) + 1

abbrev pub decreases-walk_items : goal.decreases-walk_items
decreases-walk_items g l = 4 * most (λ (e : Exp). size e) l.items.now + 1

abbrev pub decreases-walk_bindings : goal.decreases-walk_bindings
decreases-walk_bindings g l = 4 * most_of l.bindings.now + 1

abbrev pub decreases-walk_binders : goal.decreases-walk_binders
decreases-walk_binders g l = 4 * most_of l.binders.now + 1

abbrev pub decreases-walk_each : goal.decreases-walk_each
decreases-walk_each g l = 4 * max (size l.body.now) (most_of l.binders.now) + 2

abbrev pub invariant-walk_items-loop-item : goal.invariant-walk_items-loop-item
invariant-walk_items-loop-item g l = record {
  found :
      earlier l.found (first (all_unknown_names (names_in l.setting.context.now (option_map (λ v. v.items) l.setting.own.now)) (locals l.initial.scope) (trees_in (drop l.item-index l.items))))
      ≡ earlier l.initial.found (first (all_unknown_names (names_in l.setting.context.now (option_map (λ v. v.items) l.setting.own.now)) (locals l.initial.scope) (trees_in l.items)));
  scope : locals l.scope ≡ locals l.initial.scope;
}

abbrev pub invariant-walk_binders-loop-binder : goal.invariant-walk_binders-loop-binder
invariant-walk_binders-loop-binder g l = record {
  found :
      earlier l.found (first (unknown_in_each (names_in l.setting.context.now (option_map (λ v. v.items) l.setting.own.now)) (locals l.initial.scope) (binders_in (drop l.binder-index l.binders))))
      ≡ earlier l.initial.found (first (unknown_in_each (names_in l.setting.context.now (option_map (λ v. v.items) l.setting.own.now)) (locals l.initial.scope) (binders_in l.binders)));
  scope : locals l.scope ≡ locals l.initial.scope;
}

abbrev pub invariant-walk_bindings-loop-binding : goal.invariant-walk_bindings-loop-binding
invariant-walk_bindings-loop-binding g l = record {
  found :
      earlier l.found (first (unknown_in_let (names_in l.setting.context.now (option_map (λ v. v.items) l.setting.own.now)) (locals l.scope) (binders_in (drop l.binding-index l.bindings))))
      ≡ earlier l.initial.found (first (unknown_in_let (names_in l.setting.context.now (option_map (λ v. v.items) l.setting.own.now)) (locals l.initial.scope) (binders_in l.bindings)));
  scope : all_names_bound (binders_in (drop l.binding-index l.bindings)) ++ locals l.scope ≡ all_names_bound (binders_in l.bindings) ++ locals l.initial.scope;
}
