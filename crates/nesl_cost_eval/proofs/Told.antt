-- What an account says.
use Rattle.std.proofs.Common.{◌≡◌, ℕ, ◌+◌, ◌≤◌, ◌<◌, Bool, true, false, refl, sym, ◌∙◌, ap, subst, arith, List, [], ◌∷◌, ◌++◌, Result, Ok, Err, Global}
use Rattle.std.specs.Prelude.{nat_le, if◌then◌else◌}
use Rattle.std.proofs.lemmas.Bool.Decides.{nat_tests}
use Rattle.nesl_lex.specs.declared.token.Span.{Span}
use Rattle.nesl_values.specs.declared.value.Value as code
use Rattle.nesl_scalars.specs.declared.trap.Trap.{Trap}
use Rattle.nesl_syntax_tree.specs.Trees.{Tree}
use Rattle.nesl_eval_meaning.specs.Names.{Value, Scope, Environment, outside}
use Rattle.nesl_eval_meaning.specs.Out as out
use Rattle.nesl_eval_meaning.specs.Out.{Out, Budgeted, fits_budget, exceeds_budget, within}
use Rattle.nesl_eval_nodes.specs.Meets.{Is}
use Rattle.nesl_cost_meaning.specs.Cost.{Cost, work_in}
use Rattle.nesl_cost_meaning.specs.Cost as cost
use Rattle.nesl_cost_meaning.specs.Traced.{Traced, value, fault, stuck, erase, traced}
use Rattle.nesl_cost_rows.specs.declared.trace.Trace.{Trace}
use Rattle.nesl_cost_rows.specs.Written as written
use Rattle.nesl_cost_rows.specs.Written.{Note, notes_of}
use Rattle.nesl_cost_eval.specs.declared.unfinished.Source.{Source}
use Rattle.nesl_cost_eval.specs.declared.unfinished.Unfinished.{Unfinished}
use Rattle.nesl_cost_eval.specs.declared.unfinished.Unfinished.TheVariants as ends
use Rattle.nesl_cost_eval.specs.declared.account.Account.TheVariants.{Done, Fault, Over, Memory}
use Rattle.nesl_cost_eval.specs.Writes.{Book, Writes}
use Rattle.nesl_cost_eval.proofs.Running.{IsOf}
use Rattle.nesl_cost_eval.specs.Accounts.{Explains, Agrees, work_noted}

noted_append : (ns ms : List Note) → work_noted (ns ++ ms) ≡ work_noted ns + work_noted ms
noted_append [] ms = omega arith
noted_append (written.entered s ∷ ns) ms = omega (arith, noted_append ns ms)
noted_append (written.besides s w d ∷ ns) ms = omega (arith, noted_append ns ms)
noted_append (written.turn s i ∷ ns) ms = noted_append ns ms
noted_append (written.others ∷ ns) ms = noted_append ns ms
noted_append (written.turned ∷ ns) ms = noted_append ns ms
noted_append (written.called x s ∷ ns) ms = noted_append ns ms
noted_append (written.returned ∷ ns) ms = noted_append ns ms

-- the works that are noted of a cost add up to its work
work_written : (c : Cost) → work_noted (written.written c) ≡ work_in c
work_written cost.free = refl
work_written (cost.entered s) = refl
work_written (cost.besides s w d) = omega arith
work_written (cost.after c e) = omega (arith, noted_append (written.written c) (written.written e), work_written c, work_written e)
work_written (cost.turn s i c e) =
    omega (
      arith,
      noted_append (written.written c) (written.others ∷ written.written e ++ written.turned ∷ []),
      noted_append (written.written e) (written.turned ∷ []),
      work_written c,
      work_written e,
    )
work_written (cost.called x s c) = omega (arith, noted_append (written.written c) (written.returned ∷ []), work_written c)

-- the run of a whole expression, as its account
abbrev pub begun : ℕ → Book
begun f = record { notes = []; fuel = f }

pub explained : (v : code.Value Global) (j : Trace) (f k : ℕ) (t : Traced Value) → Writes Is (begun f) (Ok v) (record { notes = notes_of j; fuel = k }) t → Explains (Done v j) f t
explained v j f k stuck h = tt
explained v j f k (value x c) h = (h.0, h.1.0, omega (arith, h.1.1))
explained v j f k (fault t s p c) h = absurd h

pub explained_fault : (u : Trap) (i : Span) (q : Source) (j : Trace) (f k : ℕ) (t : Traced Value) →
    Writes (IsOf Global) (begun f) (Err (ends.Fault u i q)) (record { notes = notes_of j; fuel = k }) t → Explains (Fault u i q j) f t
explained_fault u i q j f k stuck h = tt
explained_fault u i q j f k (value x c) h = absurd h
explained_fault u i q j f k (fault t s p c) h = (h.0, h.1, h.2, h.3.0, omega (arith, h.3.1))

pub explained_over : (j : Trace) (f : ℕ) (b : Book) (t : Traced Value) → Writes (IsOf Global) (begun f) (Err ends.Over) b t → Explains (Over j) f t
explained_over j f b stuck h = tt
explained_over j f b (value x c) h = h
explained_over j f b (fault t s p c) h = h

-- what explains also agrees with the outcome under the budget
fits : (f : ℕ) (o : Out Value) (n : ℕ) → n ≡ out.work_of o → n ≤ f → within f o ≡ fits_budget o
fits f o n e h = by (nat_le (out.work_of o) f) refl
  where
    by : (b : Bool) → nat_le (out.work_of o) f ≡ b → (if b then fits_budget o else exceeds_budget) ≡ fits_budget o
    by true p = refl
    by false p = absurd (grind (arith, nat_tests))

exceeds : (f : ℕ) (o : Out Value) (n : ℕ) → n ≡ out.work_of o → f < n → within f o ≡ exceeds_budget
exceeds f o n e h = by (nat_le (out.work_of o) f) refl
  where
    by : (b : Bool) → nat_le (out.work_of o) f ≡ b → (if b then fits_budget o else exceeds_budget) ≡ exceeds_budget
    by true p = absurd (grind (arith, nat_tests))
    by false p = refl

pub agreed : (v : code.Value Global) (j : Trace) (f : ℕ) (t : Traced Value) (o : Out Value) → erase t ≡ o → Explains (Done v j) f t → Agrees (Done v j) (within f o)
agreed v j f t o e h = subst (λ (p : Out Value). Agrees (Done v j) (within f p)) e (by t h)
  where
    by : (t : Traced Value) → Explains (Done v j) f t → Agrees (Done v j) (within f (erase t))
    by stuck h = subst (λ (b : Budgeted Value). Agrees (Done v j) b) (sym (fits f out.stuck 0 refl (omega arith))) tt
    by (fault u i q c) h = absurd h
    by (value x c) h =
        subst (λ (b : Budgeted Value). Agrees (Done v j) b) (sym (fits f (erase (value x c)) (work_in c) refl h.2)) (h.0, ap work_noted h.1 ∙ work_written c)

pub agreed_fault : (u : Trap) (i : Span) (q : Source) (j : Trace) (f : ℕ) (t : Traced Value) (o : Out Value) → erase t ≡ o → Explains (Fault u i q j) f t →
    Agrees (Fault u i q j) (within f o)
agreed_fault u i q j f t o e h = subst (λ (p : Out Value). Agrees (Fault u i q j) (within f p)) e (by t h)
  where
    by : (t : Traced Value) → Explains (Fault u i q j) f t → Agrees (Fault u i q j) (within f (erase t))
    by stuck h = subst (λ (b : Budgeted Value). Agrees (Fault u i q j) b) (sym (fits f out.stuck 0 refl (omega arith))) tt
    by (value x c) h = absurd h
    by (fault k s p c) h =
        subst (λ (b : Budgeted Value). Agrees (Fault u i q j) b) (sym (fits f (erase (fault k s p c)) (work_in c) refl h.4)) (h.0, h.1, ap work_noted h.3 ∙ work_written c)

pub agreed_over : (j : Trace) (f : ℕ) (t : Traced Value) (o : Out Value) → erase t ≡ o → Explains (Over j) f t → Agrees (Over j) (within f o)
agreed_over j f t o e h = subst (λ (p : Out Value). Agrees (Over j) (within f p)) e (by t h)
  where
    by : (t : Traced Value) → Explains (Over j) f t → Agrees (Over j) (within f (erase t))
    by stuck h = subst (λ (b : Budgeted Value). Agrees (Over j) b) (sym (fits f out.stuck 0 refl (omega arith))) tt
    by (value x c) h = subst (λ (b : Budgeted Value). Agrees (Over j) b) (sym (exceeds f (erase (value x c)) (work_in c) refl h)) tt
    by (fault k s p c) h = subst (λ (b : Budgeted Value). Agrees (Over j) b) (sym (exceeds f (erase (fault k s p c)) (work_in c) refl h)) tt

-- memory ran out, or the expression has no type
pub explained_memory : (f : ℕ) (t : Traced Value) → Explains Memory f t
explained_memory f stuck = tt
explained_memory f (value x c) = tt
explained_memory f (fault k s p c) = tt

pub explained_stuck : (f : ℕ) (b : Book) (t : Traced Value) → Writes (IsOf Global) (begun f) (Err ends.Stuck) b t → Explains Memory f t
explained_stuck f b t h = explained_memory f t

-- a whole expression begins outside, with all of the fuel
pub begun_with : (n f : ℕ) (env : Environment) (sc : Scope) (e : Tree) (r : Result (code.Value Global) Unfinished) (a b : Book) → sc ≡ outside [] → a ≡ begun f →
    Writes Is a r b (traced n env sc e) → Writes Is (begun f) r b (traced n env (outside []) e)
begun_with n f env sc e r a b p q h =
    subst (λ (x : Book). Writes Is x r b (traced n env (outside []) e)) q (subst (λ (x : Scope). Writes Is a r b (traced n env x e)) p h)
