use Rattle.std.proofs.Common.{◌≡◌, drop}
use Rattle.nesl_syntax_tree.specs.Views.{trees_in, binders_in}
use Rattle.nesl_eval_sound.specs.Refers.{any_refers, bindings_refer, drawn_refers}
use Rattle.nesl_eval_sound.proofs.refers.+uses.Given as goal

abbrev pub invariant-any_uses-loop-item : goal.invariant-any_uses-loop-item
invariant-any_uses-loop-item l = any_refers l.name l.hidden (trees_in (drop l.item-index l.items)) ≡ any_refers l.name l.hidden (trees_in l.items)

abbrev pub invariant-bindings_use-loop-binding : goal.invariant-bindings_use-loop-binding
invariant-bindings_use-loop-binding l = bindings_refer l.name l.hides (binders_in (drop l.binding-index l.bindings)) ≡ bindings_refer l.name l.hidden (binders_in l.bindings)

abbrev pub invariant-drawn_use-loop-binder : goal.invariant-drawn_use-loop-binder
invariant-drawn_use-loop-binder l = drawn_refers l.name l.hidden (binders_in (drop l.binder-index l.binders)) ≡ drawn_refers l.name l.hidden (binders_in l.binders)
