-- Calls of functions.
use Rattle.std.proofs.Common.{◌≡◌, ℕ, sym, ◌∙◌, ap, List, [], ◌∷◌, ◌++◌, length, drop, Option, Some, None}
use Rattle.std.specs.Prelude.{unwrap_or}
use Rattle.std.proofs.Math.Seq.{drop-append_seam}
use Rattle.nesl_lex.specs.declared.token.Span.{Span}
use Rattle.nesl_values.specs.View.{tree_of}
use Rattle.nesl_values.specs.declared.value.Value as code
use Rattle.nesl_eval_meaning.specs.Names.{Value}
use Rattle.nesl_eval_meaning.specs.Out.{Out, after_cost, and_then, at_call}
use Rattle.nesl_eval_code.specs.declared.code.Code.{Code}
use Rattle.nesl_eval_code.specs.Frames.{frame}
use Rattle.nesl_eval_code.specs.Run.{Slot, Table, run, function_slot, nothing_slot}
use Rattle.nesl_eval_code.specs.Exec.{exec}
use Rattle.nesl_eval_code.specs.Flat.{block}
use Rattle.nesl_eval_code.proofs.Runs.{runs_as_code}
use Rattle.nesl_eval_machine.specs.State.{places_of}
use Rattle.nesl_eval_rounds.proofs.Laws.{then_after, at_call_after}
use Rattle.nesl_eval_rounds.proofs.Rows.{places_more}
use Rattle.nesl_eval_machine.proofs.Entering.{places_long}

-- what is held is a function where there is one
pub function_there : (o : Option Slot) (c : Code) → function_slot c ≡ unwrap_or o nothing_slot → o ≡ Some (function_slot c)
function_there None c e = absurd (cc e)
function_there (Some s) c e = ap Some (sym e)

-- a body in the place of its code, after the depth so far
pub called_same : (t : Table) (n : ℕ) (s : Span) (c : Code) (x : Value) (D : ℕ) (j : Value → Out Value) (X : Out Value) →
    X ≡ exec t n (Some x ∷ []) (block (1 ∷ []) c) [] →
    after_cost 0 D (and_then (at_call s (run n t (frame (x ∷ []) ∷ []) c)) j) ≡ and_then (at_call s (after_cost 0 D X)) j
called_same t n s c x D j X e =
    ap (λ o. after_cost 0 D (and_then (at_call s o) j)) (sym (e ∙ runs_as_code t n (frame (x ∷ []) ∷ []) c))
    ∙ sym (then_after 0 D (at_call s X) j)
    ∙ ap (λ o. and_then o j) (sym (at_call_after s 0 D X))

-- the argument is the only local name of a body
pub argument_alone : {A : Type 0} (xs ys : List (code.Value A)) (v : code.Value A) (len : ℕ) → ys ≡ xs ++ v ∷ [] → len ≡ length xs →
    drop len (places_of ys) ≡ Some (tree_of v) ∷ []
argument_alone xs ys v len e l =
    ap (λ zs. drop len (places_of zs)) e ∙ ap (drop len) (places_more xs (v ∷ []))
    ∙ ap (λ k. drop k (places_of xs ++ Some (tree_of v) ∷ [])) (l ∙ sym (places_long xs))
    ∙ drop-append_seam (places_of xs) (Some (tree_of v) ∷ [])
