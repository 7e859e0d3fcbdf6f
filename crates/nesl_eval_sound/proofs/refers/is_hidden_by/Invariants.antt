use Rattle.std.proofs.Common.{◌≡◌, drop}
use Rattle.std.specs.Prelude.{◌||◌}
use Rattle.nesl_syntax_tree.specs.Views.{binders_in}
use Rattle.nesl_eval_sound.specs.Refers.{some_binds}
use Rattle.nesl_eval_sound.proofs.refers.is_hidden_by.Given as goal

abbrev pub invariant-loop-binding : goal.invariant-loop-binding
invariant-loop-binding l = (l.hides || some_binds l.name (binders_in (drop l.binding-index l.bindings))) ≡ (l.hidden || some_binds l.name (binders_in l.bindings))
