use Rattle.std.proofs.Common.{◌∙◌, refl, sym, ap}
use Rattle.nesl_syntax_tree.specs.declared.tree.Binding.{Binding}
use Rattle.nesl_syntax_tree.specs.Views.{pattern_tree}
use Rattle.nesl_eval_code.specs.Means.{steps_to}
use Rattle.nesl_eval_code.proofs.Framed.{found_last, found_nowhere}
use Rattle.nesl_eval_code.proofs.frames.place_in_bindings.Goals as goal

pub returns-in_ok-steps-in-Some : goal.returns-in_ok-steps-in-Some
returns-in_ok-steps-in-Some c =
    found_last c.args.name.now c.args.bindings.now c.in-Some.index c.index-bindings-index.result (record { index = c.in-Some.index; steps = c.in_ok-steps-in-Some.steps })
    c.in-Some.ensures.within c.index-bindings-index.is c.in-Some.ensures.last refl
    (c.in_ok-steps-in-Some.ensures ∙ ap (λ (b : Binding). steps_to c.args.name.now (pattern_tree b.pattern)) (sym c.index-bindings-index.is))

pub returns-in-None : goal.returns-in-None
returns-in-None c = found_nowhere c.args.name.now c.args.bindings.now (sym c.in-None.is ∙ c.last_binding.ensures.last)
