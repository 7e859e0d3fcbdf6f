use Rattle.std.proofs.Common.{◌≡◌, ◌++◌, drop}
use Rattle.nesl_syntax_tree.specs.Views.{binders_in}
use Rattle.nesl_infer_names.specs.Names.{all_names_bound}
use Rattle.nesl_infer_names.specs.Scopes.{locals}
use Rattle.nesl_infer_names.proofs.patterns.bind_all.Given as goal

abbrev pub invariant-loop-binding : goal.invariant-loop-binding
invariant-loop-binding l =
    all_names_bound (binders_in (drop l.binding-index l.bindings)) ++ locals l.scope ≡ all_names_bound (binders_in l.bindings) ++ locals l.initial.scope
