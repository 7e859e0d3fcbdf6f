use Rattle.std.proofs.Common.{Ok, Err, arith, subst}
use Rattle.nesl_syntax_tree.specs.Views.{type_tree}
use Rattle.nesl_syntax_tree.specs.Trees as trees
use Rattle.nesl_eval_meaning.specs.Names.{Name}
use Rattle.nesl_session_bindings.specs.Stored.{bindings_of}
use Rattle.nesl_session_bindings.specs.Meanings.{datatype, elements_of}
use Rattle.nesl_session_bindings.specs.Known.{datatype_count, put_binding}
use Rattle.nesl_session_meaning.specs.Finding.{FindsForm}
use Rattle.nesl_session.specs.Forms.{IsDatatype}
use Rattle.nesl_session.proofs.Verdicts.{datatype_finds, fits, stopped_finds, stopped_charges}
use Rattle.nesl_session.proofs.forms.written.find_datatype.Goals as goal

pub returns-in-Ok-clause-found : goal.returns-in-Ok-clause-found
returns-in-Ok-clause-found c =
    let bs = bindings_of c.args.bindings.now in
    let P : Name → Type 0 = λ y. IsDatatype c.args.limits bs y (type_tree c.args.written) (Ok c.in-Ok.content) in
    datatype_finds c.args.limits bs c.args.name.items (type_tree c.args.written) c.in-Ok.content c.next_tag.result c.next_tag.ensures (subst P c.as_slice.ensures.value c.in-Ok.ensures)

pub returns-in-Ok-clause-charges : goal.returns-in-Ok-clause-charges
returns-in-Ok-clause-charges c =
    let bs = bindings_of c.args.bindings.now in
    let a = type_tree c.args.written in
    let P : Name → Type 0 = λ y. IsDatatype c.args.limits bs y a (Ok c.in-Ok.content) in
    let h = subst P c.as_slice.ensures.value c.in-Ok.ensures in
    let within = fits (elements_of (put_binding c.args.name.items (datatype (datatype_count bs) c.in-Ok.content) bs)) c.args.limits.elements (omega arith) h.2 in
    λ s. (omega arith, (c.next_tag.ensures, (a, h.0), h.1, within))

pub returns-in-Err-clause-found : goal.returns-in-Err-clause-found
returns-in-Err-clause-found c =
    let bs = bindings_of c.args.bindings.now in
    let a = type_tree c.args.written in
    let P : Name → Type 0 = λ y. IsDatatype c.args.limits bs y a (Err c.in-Err.stopped) in
    stopped_finds bs (λ s. FindsForm c.args.limits s (trees.datatype c.args.name.items a)) c.in-Err.stopped c.found.result (subst P c.as_slice.ensures.value c.in-Err.ensures) c.found.ensures

pub returns-in-Err-clause-charges : goal.returns-in-Err-clause-charges
returns-in-Err-clause-charges c = stopped_charges (bindings_of c.args.bindings.now) c.in-Err.stopped c.found.result c.found.ensures
