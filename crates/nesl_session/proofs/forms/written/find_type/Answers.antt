use Rattle.nesl_syntax_tree.specs.Views.{tree_of}
use Rattle.nesl_syntax_tree.specs.Trees as trees
use Rattle.nesl_infer.specs.Verdicts.{IsTypeBy}
use Rattle.nesl_session_bindings.specs.Known.{known}
use Rattle.nesl_session_bindings.specs.Stored.{bindings_of}
use Rattle.nesl_session_meaning.specs.declared.limits.Limits.{Limits}
use Rattle.nesl_session_meaning.specs.State.{State}
use Rattle.nesl_session_meaning.specs.Finding.{Finding, FindsForm, of_type, of_no_type}
use Rattle.nesl_session.proofs.Verdicts.{untyped_stops, stopped_finds, stopped_charges, found_answers}
use Rattle.nesl_session.proofs.forms.written.find_type.Goals as goal

pub returns-in-Err-clause-found : goal.returns-in-Err-clause-found
returns-in-Err-clause-found c =
    let bs = bindings_of c.args.bindings.now in
    let e = tree_of c.args.exp in
    let K : State → Finding → Type 0 = λ s f. (limits : Limits) → FindsForm limits s (trees.show_type e) f in
    let stops = untyped_stops bs (λ t. t) (λ s. IsTypeBy (known s.bindings) e) K c.in-Err.fault c.untyped.result (λ s v k h r limits. of_no_type h r) (λ s. c.in-Err.ensures) c.untyped.ensures in
    found_answers _ _ c.found.result (λ f h limits s. h s limits) (stopped_finds bs K c.untyped.result c.found.result stops c.found.ensures)

pub returns-in-Ok-clause-found : goal.returns-in-Ok-clause-found
returns-in-Ok-clause-found c = λ limits s. of_type c.in-Ok.ensures

pub returns-in-Err-clause-charges : goal.returns-in-Err-clause-charges
returns-in-Err-clause-charges c = stopped_charges (bindings_of c.args.bindings.now) c.untyped.result c.found.result c.found.ensures
