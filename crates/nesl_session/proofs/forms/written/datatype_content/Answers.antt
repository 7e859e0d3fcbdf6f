use Rattle.std.proofs.Common.{◌≡◌}
use Rattle.nesl_syntax_tree.specs.Trees as trees
use Rattle.nesl_syntax_tree.specs.Views.{type_tree}
use Rattle.nesl_infer.specs.Verdicts.{IsContentBy}
use Rattle.nesl_session_bindings.specs.Known.{known, datatype_count}
use Rattle.nesl_session_bindings.specs.Stored.{bindings_of}
use Rattle.nesl_session_meaning.specs.Finding.{FindsForm, no_room, definition_refused, definition_free, of_datatype, of_no_datatype}
use Rattle.nesl_session.proofs.Verdicts.{untyped_stops, against_stops, many}
use Rattle.nesl_session.proofs.forms.written.datatype_content.Goals as goal

pub returns-in-Err : goal.returns-in-Err
returns-in-Err c =
    let l = c.args.limits in
    let x = c.args.name.now in
    let a = type_tree c.args.written.now in
    untyped_stops (bindings_of c.args.bindings.now) (λ t. t) (λ s. IsContentBy (known s.bindings) a) (λ s. FindsForm l s (trees.datatype x a)) c.in-Err.fault c.untyped.result
    (λ s v k h r. of_no_datatype h r) (λ s. c.in-Err.ensures) c.untyped.ensures

pub returns-in-Some : goal.returns-in-Some
returns-in-Some c =
    let l = c.args.limits in
    let x = c.args.name.now in
    let a = type_tree c.args.written.now in
    against_stops (bindings_of c.args.bindings.now) (λ s. FindsForm l s (trees.datatype x a)) c.in-Some.refusal c.refused.result
    (λ s. of_datatype c.in-Ok.ensures (definition_refused c.in-Some.refusal c.in-Some.ensures)) c.refused.ensures

pub returns-then-not-fits_datatype : goal.returns-then-not-fits_datatype
returns-then-not-fits_datatype c =
    let bs = bindings_of c.args.bindings.now in
    λ s. of_datatype c.in-Ok.ensures (definition_free c.in-None.ensures (no_room (many _ _ (c.if-not-fits_datatype.ensures (datatype_count bs)))))
