use Rattle.std.proofs.Common.{Ok, Err, arith, subst, option_map}
use Rattle.nesl_syntax_tree.specs.Views.{tree_of, pattern_tree, signature_tree}
use Rattle.nesl_syntax_tree.specs.Trees as trees
use Rattle.nesl_eval_meaning.specs.Names.{Name}
use Rattle.nesl_session_bindings.specs.Stored.{bindings_of}
use Rattle.nesl_builtins.specs.FunctionTypes.{function_type}
use Rattle.nesl_session_bindings.specs.Meanings.{function, elements_of}
use Rattle.nesl_session_bindings.specs.Known.{put_binding}
use Rattle.nesl_session_meaning.specs.Finding.{FindsForm}
use Rattle.nesl_session.specs.Forms.{IsFunction}
use Rattle.nesl_session.proofs.Verdicts.{function_finds, fits, stopped_finds, stopped_charges}
use Rattle.nesl_session.proofs.forms.written.find_function.Goals as goal

pub returns-in-Ok-clause-found : goal.returns-in-Ok-clause-found
returns-in-Ok-clause-found c =
    let bs = bindings_of c.args.bindings.now in
    let p = pattern_tree c.args.written.parameter in
    let g = option_map signature_tree c.args.written.signature in
    let e = tree_of c.args.written.body in
    let P : Name → Type 0 = λ y. IsFunction c.args.limits bs y p g e (Ok c.in-Ok.scheme) in
    function_finds c.args.limits bs c.args.name.items p g e c.in-Ok.scheme (subst P c.as_slice.ensures.value c.in-Ok.ensures)

pub returns-in-Ok-clause-charges : goal.returns-in-Ok-clause-charges
returns-in-Ok-clause-charges c =
    let bs = bindings_of c.args.bindings.now in
    let x = c.args.name.items in
    let p = pattern_tree c.args.written.parameter in
    let g = option_map signature_tree c.args.written.signature in
    let e = tree_of c.args.written.body in
    let P : Name → Type 0 = λ y. IsFunction c.args.limits bs y p g e (Ok c.in-Ok.scheme) in
    let h = subst P c.as_slice.ensures.value c.in-Ok.ensures in
    let within = fits (elements_of (put_binding x (function (function_type c.in-Ok.scheme) p e) bs)) c.args.limits.elements (omega arith) h.2 in
    λ s. (omega arith, ((g, h.0), h.1, within))

pub returns-in-Err-clause-found : goal.returns-in-Err-clause-found
returns-in-Err-clause-found c =
    let bs = bindings_of c.args.bindings.now in
    let p = pattern_tree c.args.written.parameter in
    let g = option_map signature_tree c.args.written.signature in
    let e = tree_of c.args.written.body in
    let P : Name → Type 0 = λ y. IsFunction c.args.limits bs y p g e (Err c.in-Err.stopped) in
    stopped_finds bs (λ s. FindsForm c.args.limits s (trees.function c.args.name.items p g e)) c.in-Err.stopped c.found.result (subst P c.as_slice.ensures.value c.in-Err.ensures) c.found.ensures

pub returns-in-Err-clause-charges : goal.returns-in-Err-clause-charges
returns-in-Err-clause-charges c = stopped_charges (bindings_of c.args.bindings.now) c.in-Err.stopped c.found.result c.found.ensures
