-- What the answer of an evaluation means for the outcome under the budget.
use Rattle.std.proofs.Common.{◌≡◌, ℕ, ◌≤◌, [], Bool, true, false, cond, leb, refl, sym, ap, ◌∙◌, subst, arith}
use Rattle.std.proofs.lemmas.Bool.{leb-true}
use Rattle.nesl_values.specs.View.{tree_of}
use Rattle.nesl_lex.specs.declared.token.Span.{Span}
use Rattle.nesl_scalars.specs.declared.trap.Trap.{Trap}
use Rattle.nesl_types_shared.specs.Term.{Term}
use Rattle.nesl_syntax_tree.specs.Trees.{Tree}
use Rattle.nesl_eval_meaning.specs.Names.{Value, Name, Environment, outside}
use Rattle.nesl_eval_meaning.specs.Outcome.{out}
use Rattle.nesl_reply.specs.declared.fault.Fault.TheVariants as faults
use Rattle.nesl_reply.specs.Faults.{fault_of}
use Rattle.nesl_reply.specs.Replies as replies
use Rattle.nesl_session_bindings.specs.Meanings.{variable}
use Rattle.nesl_session_meaning.specs.declared.limits.Limits.{Limits}
use Rattle.nesl_session_meaning.specs.State.{State}
use Rattle.nesl_session_meaning.specs.Finding.{Finding, refused, budget, FindsRoom, FindsOutcome, too_much_work, a_fault, a_value}
use Rattle.nesl_eval_meaning.specs.Out.{Out, Budgeted, fits_budget, exceeds_budget, value, fault, stuck, within}
use Rattle.nesl_eval_meaning.specs.Out.{work_of}
use Rattle.nesl_eval.specs.declared.outcome.Outcome.{Outcome}
use Rattle.nesl_eval.specs.declared.outcome.Outcome.TheVariants.{Done, Fault, Over, Memory}
use Rattle.nesl_eval.specs.Outcomes.{OutcomeIs}

-- what holds of an outcome that isn't stuck, by the answer
abbrev pub IsAnswerOf : {A : Type 0} → Outcome A → ℕ → Out Value → Type 0
IsAnswerOf (Done v w d) b o = (within b o ≡ fits_budget (value (tree_of v) w d)) × (o ≡ value (tree_of v) w d) × (w ≤ b)
IsAnswerOf (Fault k s w) b o = (within b o ≡ fits_budget (fault k s w)) × (w ≤ b)
IsAnswerOf Over b o = within b o ≡ exceeds_budget
IsAnswerOf Memory b o = Unit {0}

within_budget : {A : Type 0} (r : Outcome A) (b : ℕ) (o : Out Value) → within b o ≡ fits_budget o → work_of o ≤ b → (o ≡ stuck → ⊥) → OutcomeIs r (fits_budget o) → IsAnswerOf r b o
within_budget (Done v w d) b (value x w' d') e le n h =
    let same : value x w' d' ≡ value (tree_of v) w d = λ i. value (sym h.0 i) (sym h.1 i) (sym h.2 i) in
    (e ∙ ap fits_budget same, same, subst (λ (y : ℕ). y ≤ b) (sym h.1) le)
within_budget (Done v w d) b (fault k s w') e le n h = absurd h
within_budget (Done v w d) b stuck e le n h = absurd (n refl)
within_budget (Fault k s w) b (value x w' d') e le n h = absurd h
within_budget (Fault k s w) b (fault k' s' w') e le n h =
    let same : fault k' s' w' ≡ fault k s w = λ i. fault (sym h.0 i) (sym h.1 i) (sym h.2 i) in
    (e ∙ ap fits_budget same, subst (λ (y : ℕ). y ≤ b) (sym h.2) le)
within_budget (Fault k s w) b stuck e le n h = absurd (n refl)
within_budget Over b (value x w' d') e le n h = absurd h
within_budget Over b (fault k s w') e le n h = absurd h
within_budget Over b stuck e le n h = absurd (n refl)
within_budget Memory b o e le n h = tt

over_budget : {A : Type 0} (r : Outcome A) (b : ℕ) (o : Out Value) → within b o ≡ exceeds_budget → OutcomeIs r exceeds_budget → IsAnswerOf r b o
over_budget (Done v w d) b o e h = absurd h
over_budget (Fault k s w) b o e h = absurd h
over_budget Over b o e h = e
over_budget Memory b o e h = tt

either : {A : Type 0} (ok : Bool) (r : Outcome A) (b : ℕ) (o : Out Value) → leb (work_of o) b ≡ ok → within b o ≡ cond ok (fits_budget o) exceeds_budget → (o ≡ stuck → ⊥) → OutcomeIs r (cond ok (fits_budget o) exceeds_budget) → IsAnswerOf r b o
either true r b o le e n h = within_budget r b o e (leb-true (work_of o) b le) n h
either false r b o le e n h = over_budget r b o e h

pub answer_of_outcome : {A : Type 0} (r : Outcome A) (b : ℕ) (o : Out Value) → OutcomeIs r (within b o) → (o ≡ stuck → ⊥) → IsAnswerOf r b o
answer_of_outcome r b o h n = either (leb (work_of o) b) r b o refl refl n h

-- the answer of an evaluation where the environment is that of the bindings
pub outcome_answered : {A : Type 0} (r : Outcome A) (b budget n : ℕ) (env known : Environment) (e : Tree) → b ≡ budget → env ≡ known → OutcomeIs r (within b (out n env (outside []) e))
    → (out n known (outside []) e ≡ stuck → ⊥) → IsAnswerOf r budget (out n known (outside []) e)
outcome_answered r b budget n env known e p q h =
    let P : ℕ → Type 0 = λ x. OutcomeIs r (within x (out n env (outside []) e)) in
    let Q : Environment → Type 0 = λ x. OutcomeIs r (within budget (out n x (outside []) e)) in
    answer_of_outcome r budget (out n known (outside []) e) (subst Q q (subst P p h))

pub comes_value : (limits : Limits) (s : State) (x : Name) (t : Term) (o : Out Value) (u : Value) (w d : ℕ) (f : Finding) → within (budget limits s) o ≡ fits_budget (value u w d)
    → FindsRoom limits s (replies.bound x u t (record { work = w; depth = d })) w (record { name = x; meaning = variable t u }) f → FindsOutcome limits s x t (within (budget limits s) o) f
comes_value limits s x t o u w d f h r = let P : Budgeted Value → Type 0 = λ y. FindsOutcome limits s x t y f in subst P (sym h) (a_value r)

pub comes_fault : (limits : Limits) (s : State) (x : Name) (t : Term) (o : Out Value) (k : Trap) (span : Span) (w : ℕ) (f : Finding) → within (budget limits s) o ≡ fits_budget (fault k span w)
    → f ≡ refused (fault_of k (record { span = span; work = w })) w → FindsOutcome limits s x t (within (budget limits s) o) f
comes_fault limits s x t o k span w f h e =
    let P : Budgeted Value → Type 0 = λ y. FindsOutcome limits s x t y f in
    let Q : Finding → Type 0 = FindsOutcome limits s x t (fits_budget (fault k span w)) in
    subst P (sym h) (subst Q (sym e) a_fault)

pub comes_over : (limits : Limits) (s : State) (x : Name) (t : Term) (o : Out Value) (f : Finding) → within (budget limits s) o ≡ exceeds_budget
    → f ≡ refused (faults.Work (budget limits s)) (budget limits s) → FindsOutcome limits s x t (within (budget limits s) o) f
comes_over limits s x t o f h e =
    let P : Budgeted Value → Type 0 = λ y. FindsOutcome limits s x t y f in
    let Q : Finding → Type 0 = FindsOutcome limits s x t exceeds_budget in
    subst P (sym h) (subst Q (sym e) too_much_work)

-- no budget is more than what is left
pub budget_left : (limits : Limits) (s : State) → budget limits s ≤ s.work_left
budget_left limits s = omega arith

-- the same of an answer that is known to be a fault, or over the budget
pub answer_fault : {A : Type 0} (r : Outcome A) (k : Trap) (span : Span) (w b : ℕ) (o : Out Value) → r ≡ Fault k span w → IsAnswerOf r b o → (within b o ≡ fits_budget (fault k span w)) × (w ≤ b)
answer_fault {A} r k span w b o e h = let P : Outcome A → Type 0 = λ x. IsAnswerOf x b o in subst P e h

pub answer_over : {A : Type 0} (r : Outcome A) (b : ℕ) (o : Out Value) → r ≡ Over → IsAnswerOf r b o → within b o ≡ exceeds_budget
answer_over {A} r b o e h = let P : Outcome A → Type 0 = λ x. IsAnswerOf x b o in subst P e h
