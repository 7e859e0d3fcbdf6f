use Rattle.nesl_syntax_tree.specs.Views.{tree_of}
use Rattle.nesl_infer.specs.Verdicts.{IsTypeBy}
use Rattle.nesl_session_bindings.specs.Known.{known}
use Rattle.nesl_session_bindings.specs.Stored.{bindings_of}
use Rattle.nesl_session_meaning.specs.Finding.{FindsVariable, variable_untyped, variable_refused}
use Rattle.nesl_session.proofs.Verdicts.{untyped_stops, against_stops}
use Rattle.nesl_session.proofs.forms.written.variable_type.Goals as goal

pub returns-in-Err : goal.returns-in-Err
returns-in-Err c = λ limits.
    let x = c.args.name.now in
    let e = tree_of c.args.exp.now in
    untyped_stops (bindings_of c.args.bindings.now) (λ t. t) (λ s. IsTypeBy (known s.bindings) e) (λ s. FindsVariable limits s x e) c.in-Err.fault c.untyped.result
    (λ s v k h r. variable_untyped h r) (λ s. c.in-Err.ensures) c.untyped.ensures

pub returns-in-Some : goal.returns-in-Some
returns-in-Some c = λ limits.
    let x = c.args.name.now in
    let e = tree_of c.args.exp.now in
    against_stops (bindings_of c.args.bindings.now) (λ s. FindsVariable limits s x e) c.in-Some.refusal c.refused.result
    (λ s. variable_refused c.in-Some.refusal c.in-Ok.ensures c.in-Some.ensures) c.refused.ensures
