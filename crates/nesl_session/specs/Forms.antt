-- What is found of a form without evaluation, in any state with the given names.
use Rattle.std.specs.Prelude.{◌≡◌, true, List, Option, None, Result, Ok, Err, nat_le}
use Rattle.nesl_types_shared.specs.Term.{Term}
use Rattle.nesl_types.specs.declared.schemes.Scheme.{Scheme}
use Rattle.nesl_syntax_tree.specs.Trees.{Tree, PatternTree, SignatureTree, TypeTree}
use Rattle.nesl_syntax_tree.specs.Trees as trees
use Rattle.nesl_builtins.specs.FunctionTypes.{function_type}
use Rattle.nesl_infer.specs.Verdicts.{IsTypeBy, IsFunctionBy, IsContentBy, typed}
use Rattle.nesl_infer.specs.declared.fault.InferFault.{InferFault}
use Rattle.nesl_infer.specs.declared.fault.InferFault.TheVariants as untyped
use Rattle.nesl_eval_meaning.specs.Names.{Name}
use Rattle.nesl_reply.specs.declared.fault.Fault.TheVariants as faults
use Rattle.nesl_session_bindings.specs.Meanings.{Binding, function, datatype, elements_of}
use Rattle.nesl_session_bindings.specs.Known.{known, datatype_count, put_binding}
use Rattle.nesl_session_bindings.specs.Redefinition.{a_variable, a_function, a_datatype, RefusesDefinition}
use Rattle.nesl_session_bindings.specs.declared.refusal.Refusal.{Refusal}
use Rattle.nesl_session_bindings.specs.declared.refusal.Refusal.TheVariants.{Retype, Taken}
use Rattle.nesl_session.specs.declared.forms.finding.Finding.{Finding as Found}
use Rattle.nesl_session.specs.declared.forms.finding.Finding.TheVariants as found
use Rattle.nesl_session.specs.declared.forms.stops.Stopped.{Stopped}
use Rattle.nesl_session.specs.declared.forms.stops.Stopped.TheVariants.{Refused, Memory}
use Rattle.nesl_session_meaning.specs.declared.limits.Limits.{Limits}
use Rattle.nesl_session_meaning.specs.State.{State}
use Rattle.nesl_session_meaning.specs.Finding.{Finding, refused, FindsForm, FindsVariable}

-- the state with these names
abbrev pub with_names : List Binding → State → State
with_names bs s = record s { bindings = bs }

-- why there is no type, and why a definition is refused
abbrev pub stopped_by : InferFault → Stopped
stopped_by (untyped.Unknown span) = Refused (faults.Unknown span)
stopped_by untyped.IllTyped = Refused faults.IllTyped
stopped_by untyped.Ambiguous = Refused faults.Ambiguous
stopped_by untyped.Memory = Memory

abbrev pub stopped_against : Refusal → Stopped
stopped_against Retype = Refused faults.Retype
stopped_against Taken = Refused faults.Taken

-- this is found of the form
abbrev pub IsFound : Stopped → Found → Type 0
IsFound (Refused k) f = f ≡ found.Refused k 0
IsFound Memory f = ⊥

-- the line is refused for this reason in every state with these names, unless memory ran out
abbrev pub Stops : List Binding → (State → Finding → Type 0) → Stopped → Type 0
Stops bs K (Refused k) = (s : State) → K (with_names bs s) (refused k 0)
Stops bs K Memory = Unit {0}

-- the scheme of a function that may be defined, or why it may not
abbrev pub IsFunction :
    Limits → List Binding → Name → PatternTree → Option SignatureTree → Tree → Result Scheme Stopped → Type 0
IsFunction limits bs x p g e (Ok f) =
    IsFunctionBy (known bs) x p g e (typed (function_type f))
    × RefusesDefinition bs x (a_function (function_type f)) None
    × (true ≡ nat_le (elements_of (put_binding x (function (function_type f) p e) bs)) limits.elements)
IsFunction limits bs x p g e (Err stopped) = Stops bs (λ s. FindsForm limits s (trees.function x p g e)) stopped

-- the same for what a datatype's records hold
abbrev pub IsDatatype : Limits → List Binding → Name → TypeTree → Result Term Stopped → Type 0
IsDatatype limits bs x a (Ok t) =
    IsContentBy (known bs) a (typed t) × RefusesDefinition bs x a_datatype None
    × (true ≡ nat_le (elements_of (put_binding x (datatype (datatype_count bs) t) bs)) limits.elements)
IsDatatype limits bs x a (Err stopped) = Stops bs (λ s. FindsForm limits s (trees.datatype x a)) stopped

-- the type of a variable that may be bound, or why it may not
abbrev pub IsVariable : List Binding → Name → Tree → Result Term Stopped → Type 0
IsVariable bs x e (Ok t) = IsTypeBy (known bs) e (typed t) × RefusesDefinition bs x (a_variable t) None
IsVariable bs x e (Err stopped) = (limits : Limits) → Stops bs (λ s. FindsVariable limits s x e) stopped
