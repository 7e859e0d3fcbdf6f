-- What the code's own types mean.
use Rattle.std.specs.Prelude.{◌≡◌, ◌≤◌, ◌<◌, ◌^◌, ℕ, Bool, true, false, List}
use Rattle.std.specs.Prelude.{Option, Some, None}
use Rattle.nesl_values.specs.View as values
use Rattle.nesl_syntax_tree.specs.Trees.{SignatureTree, TypeTree}
use Rattle.nesl_syntax_tree.specs.Views.{line_of, tree_of, pattern_tree}
use Rattle.nesl_builtins.specs.FunctionTypes.{function_type}
use Rattle.nesl_infer.specs.Verdicts.{IsFunctionBy, IsContentBy, typed}
use Rattle.nesl_eval_meaning.specs.Names.{Name}
use Rattle.nesl_reply.specs.declared.fault.Fault.{Fault}
use Rattle.nesl_reply.specs.Replies as replies
use Rattle.nesl_reply.specs.Replies.{Report}
use Rattle.nesl_session_bindings.specs.Meanings as meanings
use Rattle.nesl_session_bindings.specs.Meanings.{Binding, elements_of}
use Rattle.nesl_session_bindings.specs.Known.{known, datatype_count, put_binding}
use Rattle.nesl_session_bindings.specs.Redefinition.{a_variable, a_function, a_datatype, RefusesDefinition}
use Rattle.nesl_session_bindings.specs.Stored.{IsComputed}
use Rattle.nesl_session.specs.declared.forms.reading.Reading.{Reading as Seen}
use Rattle.nesl_session.specs.declared.forms.reading.Reading.TheVariants as seen
use Rattle.nesl_session.specs.declared.forms.finding.Meaning.{Meaning}
use Rattle.nesl_session.specs.declared.forms.finding.Meaning.TheVariants as code
use Rattle.nesl_session.specs.declared.forms.finding.Definition.{Definition}
use Rattle.nesl_session.specs.declared.forms.finding.Shown.{Shown}
use Rattle.nesl_session.specs.declared.forms.finding.Shown.TheVariants as shown
use Rattle.nesl_session.specs.declared.forms.finding.Finding.{Finding as Found}
use Rattle.nesl_session.specs.declared.forms.finding.Finding.TheVariants as found
use Rattle.nesl_session_meaning.specs.Reading.{Reading, no_token, no_form, too_high, form}
use Rattle.nesl_session_meaning.specs.Finding.{Finding, unread, reset, part, refused, answered}
use Rattle.nesl_session_meaning.specs.State.{State}

abbrev pub reading_of : Seen → Reading
reading_of (seen.Stuck at) = no_token at
reading_of seen.NoForm = no_form
reading_of seen.TooHigh = too_high
reading_of (seen.Form f) = form (line_of f)

abbrev pub meaning_of : Meaning → meanings.Meaning
meaning_of (code.Variable t v cost) = meanings.variable t (values.tree_of v)
meaning_of (code.Function f p e) = meanings.function (function_type f) (pattern_tree p) (tree_of e)
meaning_of (code.Datatype tag t) = meanings.datatype tag t

-- the work of the evaluation, or 0 if there was none
abbrev pub work_of : Meaning → ℕ
work_of (code.Variable t v cost) = cost.work
work_of (code.Function f p e) = 0
work_of (code.Datatype tag t) = 0

-- what is reported where a name is defined as this
abbrev pub definition_report : Name → Meaning → Report
definition_report x (code.Variable t v cost) = replies.bound x (values.tree_of v) t cost
definition_report x (code.Function f p e) = replies.function x f.argument f.result f.classes.items
definition_report x (code.Datatype tag t) = replies.datatype x t

abbrev pub binding_of : Definition → Binding
binding_of d = record { name = d.name.items; meaning = meaning_of d.meaning }

abbrev pub shown_report : Shown → Report
shown_report shown.Blank = replies.blank
shown_report shown.Names = replies.names
shown_report (shown.Budget work elements lines bytes) = replies.budget work elements lines bytes
shown_report (shown.Type t) = replies.shown t

abbrev pub finding_of : Found → Finding
finding_of (found.Unread fault) = unread fault
finding_of found.Reset = reset
finding_of found.Part = part
finding_of (found.Refused fault work) = refused fault work
finding_of (found.Answered t) = answered (shown_report t) 0 None
finding_of (found.Defined d) =
    answered (definition_report d.name.items d.meaning) (work_of d.meaning) (Some (binding_of d))

-- what is reported, if the session stores this number of lines
abbrev pub finding_report : (lines : ℕ) → Found → Report
finding_report lines (found.Unread fault) = replies.refused fault
finding_report lines found.Reset = replies.cleared lines
finding_report lines found.Part = replies.more
finding_report lines (found.Refused fault work) = replies.refused fault
finding_report lines (found.Answered t) = shown_report t
finding_report lines (found.Defined d) = definition_report d.name.items d.meaning

abbrev pub fault_in : Found → Option Fault
fault_in (found.Unread fault) = Some fault
fault_in found.Reset = None
fault_in found.Part = None
fault_in (found.Refused fault work) = Some fault
fault_in (found.Answered t) = None
fault_in (found.Defined d) = None

abbrev pub is_recorded : Found → Bool
is_recorded (found.Unread fault) = false
is_recorded found.Reset = true
is_recorded found.Part = true
is_recorded (found.Refused fault work) = true
is_recorded (found.Answered t) = true
is_recorded (found.Defined d) = true

-- there is room for the elements of the name
abbrev pub HasRoom : List Binding → Name → meanings.Meaning → Type 0
HasRoom bs x m = elements_of (put_binding x m bs) < 2 ^ 64

-- the name can mean this: it is well typed, no other name refuses it, and there is room
abbrev pub CanMean : List Binding → Name → Meaning → Type 0
CanMean bs x (code.Variable t v cost) =
    IsComputed bs t (values.tree_of v) × RefusesDefinition bs x (a_variable t) None
    × HasRoom bs x (meanings.variable t (values.tree_of v))
CanMean bs x (code.Function f p e) =
    ((g : Option SignatureTree) × IsFunctionBy (known bs) x (pattern_tree p) g (tree_of e) (typed (function_type f)))
    × RefusesDefinition bs x (a_function (function_type f)) None
    × HasRoom bs x (meanings.function (function_type f) (pattern_tree p) (tree_of e))
CanMean bs x (code.Datatype tag t) =
    (tag ≡ datatype_count bs) × ((a : TypeTree) × IsContentBy (known bs) a (typed t))
    × RefusesDefinition bs x a_datatype None × HasRoom bs x (meanings.datatype (datatype_count bs) t)

abbrev pub CanBe : List Binding → Definition → Type 0
CanBe bs d = CanMean bs d.name.items d.meaning

-- what was found of a line that was read can be charged, and what it defines can be bound
abbrev pub CanCharge : State → Found → Type 0
CanCharge s (found.Unread fault) = ⊥
CanCharge s found.Reset = ⊥
CanCharge s found.Part = ⊥
CanCharge s (found.Refused fault work) = work ≤ s.work_left
CanCharge s (found.Answered t) = Unit {0}
CanCharge s (found.Defined d) = (work_of d.meaning ≤ s.work_left) × CanBe s.bindings d
