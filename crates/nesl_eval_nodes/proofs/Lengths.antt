-- The sequences of one length.
use Rattle.std.proofs.Common.{◌≡◌, ◌==◌, ℕ, Bool, true, false, List, ◌∷◌, Option, Some, None, Result, Ok, Err, refl, ap, length, arith}
use Rattle.std.proofs.lemmas.Option.{none-some}
use Rattle.std.proofs.lemmas.Bool.Decides.{nat_tests}
use Rattle.std.specs.Prelude.{option_map, unwrap_or}
use Rattle.std.specs.List.{list_all}
use Rattle.nesl_lex.specs.declared.token.Span.{Span}
use Rattle.nesl_values.specs.Parts.{as_sequence}
use Rattle.nesl_scalars.specs.declared.trap.Trap.TheVariants.{Length}
use Rattle.nesl_eval_nodes.specs.declared.meter.Meter.{Meter}
use Rattle.nesl_eval_nodes.specs.declared.meter.Stop.{Stop}
use Rattle.nesl_eval_nodes.specs.declared.meter.Stop.TheVariants.{Fault, Stuck}
use Rattle.nesl_eval_meaning.specs.Names.{Value}
use Rattle.nesl_eval_meaning.specs.Out.{given}
use Rattle.nesl_eval_meaning.specs.Outcome.{lengths, common_places}
use Rattle.nesl_eval_nodes.specs.Meets.{Meets}
use Rattle.nesl_eval_nodes.proofs.Arms.{LenIs}

some_same : {X : Type 0} (x y : X) → Some x ≡ Some y → x ≡ y
some_same x y h = ap (λ o. unwrap_or o x) h

-- what a test of these lengths returns, if they are there
abbrev pub TellsAll : ℕ → Option (List ℕ) → Option Bool → Type 0
TellsAll n o r = (ns : List ℕ) → o ≡ Some ns → r ≡ Some (list_all (λ m. m == n) ns)

same_length : (k n : ℕ) → k ≡ n → (k == n) ≡ true
same_length k n e = grind (arith, nat_tests, e)

tells_more : (n k : ℕ) (o : Option (List ℕ)) (r : Option Bool) → (k == n) ≡ true → TellsAll n o r → TellsAll n (option_map (λ ms. k ∷ ms) o) r
tells_more n k None r e f ns h = absurd (none-some ns h)
tells_more n k (Some ms) r e f ns h = rw (← some_same (k ∷ ms) ns h, e) (f ms refl)

-- the first has the length: the others decide
pub tells_next : (n k : ℕ) (t : Value) (ts vs : List Value) (r : Option Bool) → vs ≡ t ∷ ts → Some k ≡ option_map length (as_sequence t) → k ≡ n → TellsAll n (lengths ts) r → TellsAll n (lengths vs) r
tells_next n k t ts vs r split len e f = rw (split, ← len) (tells_more n k (lengths ts) r (same_length k n e) f)

abbrev pub answer : ℕ → Span → Option Bool → Result ℕ Stop
answer n s (Some true) = Ok n
answer n s (Some false) = Err (Fault Length s)
answer n s None = Err Stuck

answered : (m : Meter) (s : Span) (n : ℕ) (o : Option (List ℕ)) (r : Option Bool) → TellsAll n o r → Meets LenIs m (answer n s r) m (given (option_map (λ ms. n ∷ ms) o) (common_places s))
answered m s n None r f = tt
answered m s n (Some ns) None f = absurd (none-some (list_all (λ k. k == n) ns) (f ns refl))
answered m s n (Some ns) (Some true) f = rw (← some_same true (list_all (λ k. k == n) ns) (f ns refl)) (refl, omega arith, omega arith)
answered m s n (Some ns) (Some false) f = rw (← some_same false (list_all (λ k. k == n) ns) (f ns refl)) (refl, refl, omega arith)

-- the length of the first, where the others have it
pub length_told : (m : Meter) (s : Span) (n : ℕ) (t : Value) (ts vs : List Value) (r : Option Bool) → vs ≡ t ∷ ts → Some n ≡ option_map length (as_sequence t) → TellsAll n (lengths ts) r → Meets LenIs m (answer n s r) m (given (lengths vs) (common_places s))
length_told m s n t ts vs r split len f = rw (split, ← len) (answered m s n (lengths ts) r f)
