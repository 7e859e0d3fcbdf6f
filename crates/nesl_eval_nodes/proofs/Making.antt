-- What nodes make of runs of their parts.
use Rattle.std.proofs.Common.{◌≡◌, ℕ, Option, Some, None, Bool, Result, Ok, Err, refl, sym, ap, ◌∙◌}
use Rattle.std.specs.Prelude.{MatchResult, unwrap_or}
use Rattle.nesl_lex.specs.declared.token.Span.{Span}
use Rattle.nesl_values.specs.Parts.{as_bool}
use Rattle.nesl_values.specs.View.{tree_of}
use Rattle.nesl_values.specs.declared.value.Value as code
use Rattle.nesl_eval_meaning.specs.Names.{Value}
use Rattle.nesl_eval_meaning.specs.Out.{Out, and_then}
use Rattle.nesl_eval_meaning.specs.Outcome.{place_if_true}
use Rattle.nesl_eval_code.specs.Run.{Slot, variable_slot, function_slot, datatype_slot, nothing_slot, Runs, run_called}
use Rattle.nesl_eval_nodes.specs.declared.meter.Meter.{Meter}
use Rattle.nesl_eval_nodes.specs.declared.meter.Stop.{Stop}
use Rattle.nesl_eval_nodes.specs.declared.meter.Stop.TheVariants.{Stuck}
use Rattle.nesl_eval_nodes.specs.Sides.{IsKeptPlace}
use Rattle.nesl_eval_nodes.specs.Meets.{Meets, Is}
use Rattle.nesl_eval_nodes.proofs.Arms.{keeps_value, keeps_none}

pub keeps_truth : {A : Type 0} (m0 m1 : Meter) (v : code.Value A) (r : Result Bool Stop) (i : ℕ) (o : Out Value) → MatchResult r (λ b. as_bool (tree_of v) ≡ Some b) (λ e. (e ≡ Stuck) × (as_bool (tree_of v) ≡ None)) → Meets Is m0 (Ok v) m1 o → Meets (IsKeptPlace i) m0 r m1 (and_then o (place_if_true i))
keeps_truth m0 m1 v (Ok b) i o h p = keeps_value m0 m1 v b i o p (sym h)
keeps_truth m0 m1 v (Err e) i o h p = rw h.0 (keeps_none m0 m1 v i o p (sym h.1))

-- what is at the place is called
pub called_held : (f : Runs) (s : Span) (q : Option Slot) (v : Value) → run_called f s (Some (unwrap_or q nothing_slot)) v ≡ run_called f s q v
called_held f s None v = refl
called_held f s (Some (variable_slot x)) v = refl
called_held f s (Some (function_slot c)) v = refl
called_held f s (Some (datatype_slot k)) v = refl
called_held f s (Some nothing_slot) v = refl

pub held_called : (f : Runs) (s : Span) (q : Option Slot) (v : Value) (h : Slot) → h ≡ unwrap_or q nothing_slot → run_called f s (Some h) v ≡ run_called f s q v
held_called f s q v h e = ap (λ j. run_called f s (Some j) v) e ∙ called_held f s q v
