-- The sums of a table are those of the cost that was written down.
use Rattle.std.proofs.Common.{◌≡◌, ℕ, ◌≤◌, ◌<◌, Bool, true, false, refl, sym, ◌∙◌, ap, subst, arith, List, None, Global, Result, Ok, Err}
use Rattle.std.specs.List.{sum_by}
use Rattle.std.specs.Prelude.{nat_le, if◌then◌else◌, IfOk}
use Rattle.std.proofs.lemmas.Bool.Decides.{nat_tests}
use Rattle.std.proofs.lemmas.List.Recursion.{is_sum_by}
use Rattle.nesl_lex.specs.declared.token.Span.{Span}
use Rattle.nesl_scalars.specs.declared.trap.Trap.{Trap}
use Rattle.nesl_values.specs.declared.value.Value as code
use Rattle.nesl_eval_meaning.specs.Names.{Value}
use Rattle.nesl_eval_meaning.specs.Out as out
use Rattle.nesl_eval_meaning.specs.Out.{Out, Budgeted, fits_budget, exceeds_budget, within}
use Rattle.nesl_cost_meaning.specs.Cost.{Cost, Charge, works, depths, work_in, depth_in, charges, path}
use Rattle.nesl_cost_meaning.specs.Traced.{Traced, value, fault, stuck, erase}
use Rattle.nesl_cost_meaning.proofs.Sums.{sums_up}
use Rattle.nesl_cost_rows.specs.declared.trace.Trace.{Trace}
use Rattle.nesl_cost_rows.specs.Written.{notes_of, written}
use Rattle.nesl_cost_eval.specs.declared.unfinished.Source.{Source}
use Rattle.nesl_cost_eval.specs.declared.account.Account.TheVariants.{Done, Fault, Over}
use Rattle.nesl_cost_eval.specs.Accounts.{Explains}
use Rattle.nesl_cost_shown.specs.Tables.{SameWork, SameDepth}
use Rattle.nesl_cost_shown.specs.Shown.{charges_shown}
use Rattle.nesl_cost_session.specs.declared.costs.EvaluationEnd.{EvaluationEnd}
use Rattle.nesl_cost_session.specs.declared.costs.EvaluationEnd.TheVariants as ends
use Rattle.nesl_cost_session.specs.declared.costs.Measured.{Measured}
use Rattle.nesl_cost_session.specs.Sums.{AddsUp, EndsBy}

-- sums, as those of all places that are picked
works_sum : (cs : List Charge) → works cs ≡ sum_by (λ (c : Charge). c.work) cs
works_sum cs = is_sum_by works (λ (c : Charge). c.work) refl (λ _ _. refl) cs

depths_sum : (cs : List Charge) → depths cs ≡ sum_by (λ (c : Charge). c.depth) cs
depths_sum cs = is_sum_by depths (λ (c : Charge). c.depth) refl (λ _ _. refl) cs

pub table_work : (rows all : List Charge) (c : Cost) → SameWork rows all → all ≡ charges None c → works rows ≡ work_in c
table_work rows all c s e = works_sum rows ∙ s (λ _. true) ∙ sym (works_sum all) ∙ ap works e ∙ (sums_up None c).0

pub table_depth : (rows ds : List Charge) (c : Cost) → SameDepth rows ds → ds ≡ path None c → depths rows ≡ depth_in c
table_depth rows ds c s e = depths_sum rows ∙ s (λ _. true) ∙ sym (depths_sum ds) ∙ ap depths e ∙ (sums_up None c).1

-- an outcome under a budget
fits : (f : ℕ) (o : Out Value) → out.work_of o ≤ f → within f o ≡ fits_budget o
fits f o h = by (nat_le (out.work_of o) f) refl
  where
    by : (b : Bool) → nat_le (out.work_of o) f ≡ b → (if b then fits_budget o else exceeds_budget) ≡ fits_budget o
    by true p = refl
    by false p = absurd (grind (arith, nat_tests))

exceeds : (f : ℕ) (o : Out Value) → f < out.work_of o → within f o ≡ exceeds_budget
exceeds f o h = by (nat_le (out.work_of o) f) refl
  where
    by : (b : Bool) → nat_le (out.work_of o) f ≡ b → (if b then fits_budget o else exceeds_budget) ≡ exceeds_budget
    by true p = absurd (grind (arith, nat_tests))
    by false p = refl

-- what the table of a trace adds up to
abbrev pub HasSums : Measured → Trace → Type 0
HasSums m j = (c : Cost) → notes_of j ≡ written c → (works (charges_shown m.table) ≡ work_in c) × (depths (charges_shown m.table) ≡ depth_in c)

module _ (m : Measured) (j : Trace) (f : ℕ) (s : HasSums m j) where
  abbrev Under : Out Value → Type 0
  Under o = AddsUp m (within f o)

  fitting : (o : Out Value) → out.work_of o ≤ f → AddsUp m (fits_budget o) → Under o
  fitting o h a = subst (λ (b : Budgeted Value). AddsUp m b) (sym (fits f o h)) a

  exceeding : (o : Out Value) → f < out.work_of o → m.ending ≡ ends.Over → Under o
  exceeding o h a = subst (λ (b : Budgeted Value). AddsUp m b) (sym (exceeds f o h)) a

  pub done : (v : code.Value Global) (t : Traced Value) (o : Out Value) → erase t ≡ o → m.ending ≡ ends.Value → Explains (Done v j) f t → Under o
  done v t o e g h = subst Under e (by t h)
    where
      by : (t : Traced Value) → Explains (Done v j) f t → Under (erase t)
      by stuck h = fitting out.stuck (omega arith) tt
      by (fault u i q c) h = absurd h
      by (value x c) h = fitting (erase (value x c)) h.2 (g, (s c h.1).0, (s c h.1).1)

  pub faulted : (u : Trap) (i : Span) (q : Source) (t : Traced Value) (o : Out Value) → erase t ≡ o → m.ending ≡ ends.Fault u i q → Explains (Fault u i q j) f t → Under o
  faulted u i q t o e g h = subst Under e (by t h)
    where
      by : (t : Traced Value) → Explains (Fault u i q j) f t → Under (erase t)
      by stuck h = fitting out.stuck (omega arith) tt
      by (value x c) h = absurd h
      by (fault k i' p c) h =
          fitting (erase (fault k i' p c)) h.4 (subst (λ (n : EvaluationEnd). EndsBy n k i') (sym g) (h.0, h.1), (s c h.3).0)

  pub over : (t : Traced Value) (o : Out Value) → erase t ≡ o → m.ending ≡ ends.Over → Explains (Over j) f t → Under o
  over t o e g h = subst Under e (by t h)
    where
      by : (t : Traced Value) → Explains (Over j) f t → Under (erase t)
      by stuck h = fitting out.stuck (omega arith) tt
      by (value x c) h = exceeding (erase (value x c)) h g
      by (fault k i p c) h = exceeding (erase (fault k i p c)) h g

-- the same of what is returned
abbrev pub SumsOf : {E : Type 0} → Result Measured E → Trace → Type 0
SumsOf r j =
    (c : Cost) → notes_of j ≡ written c
    → IfOk r (λ m. (works (charges_shown m.table) ≡ work_in c) × (depths (charges_shown m.table) ≡ depth_in c))

pub both : {E : Type 0} (r : Result Measured E) (j : Trace) → ((c : Cost) → notes_of j ≡ written c → IfOk r (λ m. works (charges_shown m.table) ≡ work_in c)) →
    ((c : Cost) → notes_of j ≡ written c → IfOk r (λ m. depths (charges_shown m.table) ≡ depth_in c)) → SumsOf r j
both (Ok m) j w d c h = (w c h, d c h)
both (Err e) j w d c h = tt

pub done_found : {E : Type 0} (r : Result Measured E) (j : Trace) (f : ℕ) → SumsOf r j → (v : code.Value Global) (t : Traced Value) (o : Out Value) → erase t ≡ o →
    IfOk r (λ m. m.ending ≡ ends.Value) → Explains (Done v j) f t → IfOk r (λ m. AddsUp m (within f o))
done_found (Ok m) j f s v t o e g h = done m j f s v t o e g h
done_found (Err x) j f s v t o e g h = tt

pub fault_found : {E : Type 0} (r : Result Measured E) (j : Trace) (f : ℕ) → SumsOf r j → (u : Trap) (i : Span) (q : Source) (t : Traced Value) (o : Out Value) →
    erase t ≡ o → IfOk r (λ m. m.ending ≡ ends.Fault u i q) → Explains (Fault u i q j) f t → IfOk r (λ m. AddsUp m (within f o))
fault_found (Ok m) j f s u i q t o e g h = faulted m j f s u i q t o e g h
fault_found (Err x) j f s u i q t o e g h = tt

pub over_found : {E : Type 0} (r : Result Measured E) (j : Trace) (f : ℕ) → SumsOf r j → (t : Traced Value) (o : Out Value) → erase t ≡ o →
    IfOk r (λ m. m.ending ≡ ends.Over) → Explains (Over j) f t → IfOk r (λ m. AddsUp m (within f o))
over_found (Ok m) j f s t o e g h = over m j f s t o e g h
over_found (Err x) j f s t o e g h = tt
