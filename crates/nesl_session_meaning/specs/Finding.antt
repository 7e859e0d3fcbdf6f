-- What is found of a line that has a tree: the first check that fails, or what the line does.
use Rattle.std.specs.Prelude.{ℕ, ◌<◌, ◌≤◌, [], Option, Some, None, length, sum_by, min}
use Rattle.nesl_types_shared.specs.Term.{Term}
use Rattle.nesl_syntax_tree.specs.Trees as trees
use Rattle.nesl_syntax_tree.specs.Trees.{Tree, PatternTree, SignatureTree, TypeTree, FormTree}
use Rattle.nesl_lex.specs.declared.token.Span.{Span}
use Rattle.nesl_scalars.specs.declared.trap.Trap.{Trap}
use Rattle.nesl_builtins.specs.FunctionTypes.{FunctionType}
use Rattle.nesl_infer.specs.Verdicts.{Verdict, typed, unknown_at, ill_typed, ambiguous}
use Rattle.nesl_infer.specs.Verdicts.{IsTypeBy, IsFunctionBy, IsContentBy}
use Rattle.nesl_eval_meaning.specs.Names.{Name, Value, outside}
use Rattle.nesl_eval_meaning.specs.Out.{Budgeted, fits_budget, exceeds_budget, value, fault, within}
use Rattle.nesl_eval_meaning.specs.Outcome.{out}
use Rattle.nesl_reply.specs.declared.fault.Fault.{Fault}
use Rattle.nesl_reply.specs.declared.fault.Fault.TheVariants as faults
use Rattle.nesl_reply.specs.Faults.{fault_of}
use Rattle.nesl_reply.specs.Replies as replies
use Rattle.nesl_reply.specs.Replies.{Report}
use Rattle.nesl_session_meaning.specs.declared.limits.Limits.{Limits}
use Rattle.nesl_session_bindings.specs.Meanings.{Binding, variable, function, datatype, elements_of}
use Rattle.nesl_session_bindings.specs.Known.{known, environment, datatype_count, put_binding}
use Rattle.nesl_session_bindings.specs.declared.refusal.Refusal.{Refusal}
use Rattle.nesl_session_bindings.specs.declared.refusal.Refusal.TheVariants.{Retype, Taken}
use Rattle.nesl_session_bindings.specs.Redefinition.{Definition, a_variable, a_function, a_datatype, RefusesDefinition}
use Rattle.nesl_session_bindings.specs.Redefinition.{it}
use Rattle.nesl_session_meaning.specs.State.{State}
use Rattle.nesl_session_meaning.specs.Reading.{Reading, no_token, no_form, too_high, form}

-- what is found of a line
pub data Finding : Type 0 where
  -- the line is refused unread, and nothing changes
  unread : Fault → Finding
  -- everything is dropped but the work that is left
  reset : Finding
  -- the line is part of a form that isn't complete yet
  part : Finding
  -- the line is refused, after this amount of work
  refused : Fault → (work : ℕ) → Finding
  -- the line is answered, after this amount of work, and may bind a name
  answered : Report → (work : ℕ) → Option Binding → Finding

-- the fault by which a verdict of typing refuses a line
pub data RefusesTyping {T : Type 0} : Verdict T → Fault → Type 0 where
  an_unknown_name : {at : Span} → RefusesTyping (unknown_at at) (faults.Unknown at)
  no_type : RefusesTyping ill_typed faults.IllTyped
  two_types : RefusesTyping ambiguous faults.Ambiguous

-- the fault of a definition that is refused because of the names that are bound already
abbrev pub refusal_fault : Refusal → Fault
refusal_fault Retype = faults.Retype
refusal_fault Taken = faults.Taken

-- the binding is made, or refused if all names would have more elements than they may
pub data FindsRoom (limits : Limits) (s : State) (report : Report) (work : ℕ) (b : Binding) : Finding → Type 0 where
  room :
      elements_of (put_binding b.name b.meaning s.bindings) ≤ limits.elements
      → FindsRoom limits s report work b (answered report work (Some b))
  no_room :
      limits.elements < elements_of (put_binding b.name b.meaning s.bindings)
      → FindsRoom limits s report work b (refused (faults.Elements work) work)

-- what is found of a definition, which does no work
pub data FindsDefinition (limits : Limits) (s : State) (k : Definition) (report : Report) (b : Binding)
    : Finding → Type 0 where
  definition_refused :
      (refusal : Refusal) → RefusesDefinition s.bindings b.name k (Some refusal)
      → FindsDefinition limits s k report b (refused (refusal_fault refusal) 0)
  definition_free :
      {f : Finding} → RefusesDefinition s.bindings b.name k None → FindsRoom limits s report 0 b f
      → FindsDefinition limits s k report b f

-- the most work that a line may take
abbrev pub budget : Limits → State → ℕ
budget limits s = min limits.line_work s.work_left

-- What is found where a name is bound to an expression of this type, by the expression's outcome within the budget. An
-- expression that has a type is never stuck.
pub data FindsOutcome (limits : Limits) (s : State) (x : Name) (t : Term) : Budgeted Value → Finding → Type 0 where
  too_much_work : FindsOutcome limits s x t exceeds_budget (refused (faults.Work (budget limits s)) (budget limits s))
  a_fault :
      {k : Trap} {at : Span} {w : ℕ}
      → FindsOutcome limits s x t (fits_budget (fault k at w)) (refused (fault_of k (record { span = at; work = w })) w)
  a_value :
      {v : Value} {w d : ℕ} {f : Finding}
      → FindsRoom limits s (replies.bound x v t (record { work = w; depth = d })) w
      (record { name = x; meaning = variable t v }) f
      → FindsOutcome limits s x t (fits_budget (value v w d)) f

-- what is found of `x = e;`
pub data FindsVariable (limits : Limits) (s : State) (x : Name) (e : Tree) : Finding → Type 0 where
  variable_untyped :
      {v : Verdict Term} {k : Fault} → IsTypeBy (known s.bindings) e v → RefusesTyping v k
      → FindsVariable limits s x e (refused k 0)
  variable_refused :
      {t : Term} (refusal : Refusal) → IsTypeBy (known s.bindings) e (typed t)
      → RefusesDefinition s.bindings x (a_variable t) (Some refusal)
      → FindsVariable limits s x e (refused (refusal_fault refusal) 0)
  evaluated :
      {t : Term} {f : Finding} → IsTypeBy (known s.bindings) e (typed t)
      → RefusesDefinition s.bindings x (a_variable t) None
      → FindsOutcome limits s x t (within (budget limits s) (out 1000 (environment s.bindings) (outside []) e)) f
      → FindsVariable limits s x e f

-- the work that is left, and how much of each limit is used
abbrev pub budget_report : Limits → State → Report
budget_report limits s = replies.budget s.work_left
    (record { used = elements_of s.bindings; limit = limits.elements })
    (record { used = length s.transcript; limit = limits.transcript_lines })
    (record { used = sum_by length s.transcript; limit = limits.transcript_bytes })

-- what is found of a line with this tree; an expression alone is bound to `it`
pub data FindsForm (limits : Limits) (s : State) : FormTree → Finding → Type 0 where
  of_nothing : FindsForm limits s trees.nothing (answered replies.blank 0 None)
  of_function :
      {x : Name} {p : PatternTree} {g : Option SignatureTree} {e : Tree} {t : FunctionType} {f : Finding}
      → IsFunctionBy (known s.bindings) x p g e (typed t)
      → FindsDefinition limits s (a_function t) (replies.function x t.argument t.result t.classes)
      (record { name = x; meaning = function t p e }) f
      → FindsForm limits s (trees.function x p g e) f
  of_no_function :
      {x : Name} {p : PatternTree} {g : Option SignatureTree} {e : Tree} {v : Verdict FunctionType} {k : Fault}
      → IsFunctionBy (known s.bindings) x p g e v → RefusesTyping v k
      → FindsForm limits s (trees.function x p g e) (refused k 0)
  of_datatype :
      {x : Name} {a : TypeTree} {t : Term} {f : Finding} → IsContentBy (known s.bindings) a (typed t)
      → FindsDefinition limits s a_datatype (replies.datatype x t)
      (record { name = x; meaning = datatype (datatype_count s.bindings) t }) f
      → FindsForm limits s (trees.datatype x a) f
  of_no_datatype :
      {x : Name} {a : TypeTree} {v : Verdict Term} {k : Fault}
      → IsContentBy (known s.bindings) a v → RefusesTyping v k → FindsForm limits s (trees.datatype x a) (refused k 0)
  of_variable :
      {x : Name} {e : Tree} {f : Finding} → FindsVariable limits s x e f → FindsForm limits s (trees.bind x e) f
  of_expression :
      {e : Tree} {f : Finding} → FindsVariable limits s it e f → FindsForm limits s (trees.evaluate e) f
  of_names : FindsForm limits s trees.show_names (answered replies.names 0 None)
  of_budget : FindsForm limits s trees.show_budget (answered (budget_report limits s) 0 None)
  of_type :
      {e : Tree} {t : Term} → IsTypeBy (known s.bindings) e (typed t)
      → FindsForm limits s (trees.show_type e) (answered (replies.shown t) 0 None)
  of_no_type :
      {e : Tree} {v : Verdict Term} {k : Fault} → IsTypeBy (known s.bindings) e v → RefusesTyping v k
      → FindsForm limits s (trees.show_type e) (refused k 0)

-- what is found of a line, by its reading
pub data FindsReading (limits : Limits) (s : State) : Reading → Finding → Type 0 where
  lexical : {at : ℕ} → FindsReading limits s (no_token at) (refused (faults.Lexical at) 0)
  syntax : FindsReading limits s no_form (refused faults.Syntax 0)
  nested : FindsReading limits s too_high (refused faults.Nested 0)
  has_tree : {l : FormTree} {f : Finding} → FindsForm limits s l f → FindsReading limits s (form l) f
