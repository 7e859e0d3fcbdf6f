-- What is found of a definition, by its type, by what stands against it and by its elements.
use Rattle.std.proofs.Common.{◌≡◌, ℕ, ◌<◌, ◌≤◌, ◌^◌, List, true, false, leb, Option, Some, Result, Ok, Err, sym, ap, subst, arith}
use Rattle.std.specs.Prelude.{IfOk}
use Rattle.std.proofs.lemmas.Bool.{leb-false, leb-true}
use Rattle.nesl_types_shared.specs.Term.{Term}
use Rattle.nesl_types.specs.declared.schemes.Scheme.{Scheme}
use Rattle.nesl_syntax_tree.specs.Trees.{Tree, PatternTree, SignatureTree, TypeTree}
use Rattle.nesl_syntax_tree.specs.Trees as trees
use Rattle.nesl_builtins.specs.FunctionTypes.{function_type}
use Rattle.nesl_infer.specs.Verdicts.{Verdict, AnswersVerdict, unknown_at, ill_typed, ambiguous}
use Rattle.nesl_infer.specs.declared.fault.InferFault.{InferFault}
use Rattle.nesl_infer.specs.declared.fault.InferFault.TheVariants as untyped
use Rattle.nesl_eval_meaning.specs.Names.{Name}
use Rattle.nesl_reply.specs.declared.fault.Fault.{Fault}
use Rattle.nesl_reply.specs.declared.fault.Fault.TheVariants as faults
use Rattle.nesl_reply.specs.Replies as replies
use Rattle.nesl_session_bindings.specs.Meanings.{Binding, function, datatype}
use Rattle.nesl_session_bindings.specs.Known.{datatype_count}
use Rattle.nesl_session_bindings.specs.declared.refusal.Refusal.{Refusal}
use Rattle.nesl_session_bindings.specs.declared.refusal.Refusal.TheVariants.{Retype, Taken}
use Rattle.nesl_session_meaning.specs.declared.limits.Limits.{Limits}
use Rattle.nesl_session_meaning.specs.State.{State}
use Rattle.nesl_session_meaning.specs.Finding.{Finding, refused, answered, RefusesTyping, an_unknown_name, no_type, two_types, refusal_fault, FindsForm}
use Rattle.nesl_session_meaning.specs.Finding.{room, definition_free, of_function, of_datatype}
use Rattle.nesl_session.specs.declared.forms.finding.Finding.{Finding as Found}
use Rattle.nesl_session.specs.declared.forms.stops.Stopped.{Stopped}
use Rattle.nesl_session.specs.declared.forms.stops.Stopped.TheVariants.{Refused, Memory}
use Rattle.nesl_session.specs.Found.{finding_of, CanCharge}
use Rattle.nesl_session.specs.Forms.{with_names, stopped_by, stopped_against, IsFound, Stops, IsFunction, IsDatatype}

-- no type was found
untyped_at : {T X : Type 0} (bs : List Binding) (f : X → T) (Is : State → Verdict T → Type 0) (K : State → Finding → Type 0) (fault : InferFault)
    → ((s : State) (v : Verdict T) (k : Fault) → Is s v → RefusesTyping v k → K s (refused k 0))
    → ((s : State) → AnswersVerdict f (Is (with_names bs s)) (Err fault)) → Stops bs K (stopped_by fault)
untyped_at bs f Is K (untyped.Unknown span) give a = λ s. give (with_names bs s) (unknown_at span) (faults.Unknown span) (a s) an_unknown_name
untyped_at bs f Is K untyped.IllTyped give a = λ s. give (with_names bs s) ill_typed faults.IllTyped (a s) no_type
untyped_at bs f Is K untyped.Ambiguous give a = λ s. give (with_names bs s) ambiguous faults.Ambiguous (a s) two_types
untyped_at bs f Is K untyped.Memory give a = tt

pub untyped_stops : {T X : Type 0} (bs : List Binding) (f : X → T) (Is : State → Verdict T → Type 0) (K : State → Finding → Type 0) (fault : InferFault) (r : Stopped)
    → ((s : State) (v : Verdict T) (k : Fault) → Is s v → RefusesTyping v k → K s (refused k 0))
    → ((s : State) → AnswersVerdict f (Is (with_names bs s)) (Err fault)) → r ≡ stopped_by fault → Stops bs K r
untyped_stops bs f Is K fault r give a e = subst (Stops bs K) (sym e) (untyped_at bs f Is K fault give a)

-- a definition is refused
against_at : (bs : List Binding) (K : State → Finding → Type 0) (refusal : Refusal) → ((s : State) → K (with_names bs s) (refused (refusal_fault refusal) 0)) → Stops bs K (stopped_against refusal)
against_at bs K Retype h = h
against_at bs K Taken h = h

pub against_stops : (bs : List Binding) (K : State → Finding → Type 0) (refusal : Refusal) (r : Stopped)
    → ((s : State) → K (with_names bs s) (refused (refusal_fault refusal) 0)) → r ≡ stopped_against refusal → Stops bs K r
against_stops bs K refusal r h e = subst (Stops bs K) (sym e) (against_at bs K refusal h)

-- there are too many elements, or not
pub many : (elements limit : ℕ) → false ≡ leb elements limit → limit < elements
many elements limit h = leb-false elements limit (sym h)

pub few : (elements limit : ℕ) → true ≡ leb elements limit → elements ≤ limit
few elements limit h = leb-true elements limit (sym h)

pub fits : (elements limit : ℕ) → limit < 2 ^ 64 → true ≡ leb elements limit → elements < 2 ^ 64
fits elements limit h e = let le = leb-true elements limit (sym e) in omega (arith, le)

-- a definition is answered
pub function_finds : (limits : Limits) (bs : List Binding) (x : Name) (p : PatternTree) (g : Option SignatureTree) (e : Tree) (f : Scheme) → IsFunction limits bs x p g e (Ok f) → (s : State)
    → FindsForm limits (with_names bs s) (trees.function x p g e)
    (answered (replies.function x (function_type f).argument (function_type f).result (function_type f).classes) 0 (Some (record { name = x; meaning = function (function_type f) p e })))
function_finds limits bs x p g e f h s = of_function h.0 (definition_free h.1 (room (few _ _ h.2)))

pub datatype_finds : (limits : Limits) (bs : List Binding) (x : Name) (a : TypeTree) (t : Term) (tag : ℕ) → tag ≡ datatype_count bs → IsDatatype limits bs x a (Ok t) → (s : State)
    → FindsForm limits (with_names bs s) (trees.datatype x a) (answered (replies.datatype x t) 0 (Some (record { name = x; meaning = datatype tag t })))
datatype_finds limits bs x a t tag e h s =
    let P : ℕ → Type 0 = λ k. FindsForm limits (with_names bs s) (trees.datatype x a) (answered (replies.datatype x t) 0 (Some (record { name = x; meaning = datatype k t }))) in
    subst P (sym e) (of_datatype h.0 (definition_free h.1 (room (few _ _ h.2))))

-- what is found where a form was stopped
pub stopped_finds : {E : Type 0} (bs : List Binding) (K : State → Finding → Type 0) (stopped : Stopped) (r : Result Found E)
    → Stops bs K stopped → IfOk r (IsFound stopped) → IfOk r (λ f. (s : State) → K (with_names bs s) (finding_of f))
stopped_finds bs K (Refused k) (Ok f) h e = λ s. subst (K (with_names bs s)) (sym (ap finding_of e)) (h s)
stopped_finds bs K Memory (Ok f) h e = absurd e
stopped_finds bs K stopped (Err x) h e = tt

pub stopped_charges : {E : Type 0} (bs : List Binding) (stopped : Stopped) (r : Result Found E) → IfOk r (IsFound stopped) → IfOk r (λ f. (s : State) → CanCharge (with_names bs s) f)
stopped_charges bs (Refused k) (Ok f) e = λ s. subst (CanCharge (with_names bs s)) (sym e) (omega arith)
stopped_charges bs Memory (Ok f) e = absurd e
stopped_charges bs stopped (Err x) e = tt

-- what holds of a finding, where it follows from what is known of it
pub found_answers : {E : Type 0} (P Q : Found → Type 0) (r : Result Found E) → ((f : Found) → P f → Q f) → IfOk r P → IfOk r Q
found_answers P Q (Ok f) m h = m f h
found_answers P Q (Err e) m h = tt
