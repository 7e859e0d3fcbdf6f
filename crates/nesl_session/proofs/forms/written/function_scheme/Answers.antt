use Rattle.std.proofs.Common.{◌≡◌}
use Rattle.std.specs.Prelude.{option_map}
use Rattle.nesl_syntax_tree.specs.Trees as trees
use Rattle.nesl_syntax_tree.specs.Views.{tree_of, pattern_tree, signature_tree}
use Rattle.nesl_builtins.specs.FunctionTypes.{function_type}
use Rattle.nesl_infer.specs.Verdicts.{IsFunctionBy}
use Rattle.nesl_session_bindings.specs.Known.{known}
use Rattle.nesl_session_bindings.specs.Stored.{bindings_of}
use Rattle.nesl_session_meaning.specs.Finding.{FindsForm, no_room, definition_refused, definition_free, of_function, of_no_function}
use Rattle.nesl_session.proofs.Verdicts.{untyped_stops, against_stops, many}
use Rattle.nesl_session.proofs.forms.written.function_scheme.Goals as goal

pub returns-in-Err : goal.returns-in-Err
returns-in-Err c =
    let l = c.args.limits in
    let x = c.args.name.now in
    let p = pattern_tree c.args.written.now.parameter in
    let g = option_map signature_tree c.args.written.now.signature in
    let e = tree_of c.args.written.now.body in
    untyped_stops (bindings_of c.args.bindings.now) function_type (λ s. IsFunctionBy (known s.bindings) x p g e) (λ s. FindsForm l s (trees.function x p g e)) c.in-Err.fault c.untyped.result
    (λ s v k h r. of_no_function h r) (λ s. c.in-Err.ensures) c.untyped.ensures

pub returns-in-Some : goal.returns-in-Some
returns-in-Some c =
    let l = c.args.limits in
    let x = c.args.name.now in
    let p = pattern_tree c.args.written.now.parameter in
    let g = option_map signature_tree c.args.written.now.signature in
    let e = tree_of c.args.written.now.body in
    against_stops (bindings_of c.args.bindings.now) (λ s. FindsForm l s (trees.function x p g e)) c.in-Some.refusal c.refused.result
    (λ s. of_function c.in-Ok.ensures (definition_refused c.in-Some.refusal c.in-Some.ensures)) c.refused.ensures

pub returns-then-not-fits_function : goal.returns-then-not-fits_function
returns-then-not-fits_function c =
    let p = pattern_tree c.args.written.now.parameter in
    let f = function_type c.in-Ok.scheme in
    λ s. of_function c.in-Ok.ensures (definition_free c.in-None.ensures (no_room (many _ _ (c.if-not-fits_function.ensures f p))))
