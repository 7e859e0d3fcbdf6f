-- Values that are taken off the stack together.
use Rattle.std.proofs.lemmas.Bool.Decides.{nat_tests}
use Rattle.std.specs.Prelude.{nat_le}
use Rattle.std.proofs.Common.{Bool, true, false, ◌≡◌, ℕ, zero, suc, ◌+◌, ◌<◌, ◌≤◌, refl, ◌∙◌, ap, arith, inl, inr, ◌⊎◌, List, [], ◌∷◌, ◌++◌, map, length, take, drop, reverse, Result, Some, None, Vec}
use Rattle.std.proofs.lemmas.List.{take-append-le, drop-append-le, reverse-append, reverse-reverse, length-reverse, map-append, length-map}
use Rattle.std.proofs.Math.ListN.{length-append}
use Rattle.nesl_values.specs.View.{tree_of}
use Rattle.nesl_values.specs.declared.value.Value as code
use Rattle.nesl_eval_meaning.specs.Names.{Value}
use Rattle.nesl_eval_meaning.specs.Out.{Out, given, stuck}
use Rattle.nesl_eval_code.specs.Run.{Table}
use Rattle.nesl_eval_code.specs.Block.{Block}
use Rattle.nesl_eval_code.specs.Exec.{taken}
use Rattle.nesl_eval_code.proofs.Parts.{taken_all}
use Rattle.nesl_eval_nodes.specs.declared.meter.Stop.{Stop}
use Rattle.nesl_eval_machine.specs.declared.state.Machine.{Machine}
use Rattle.nesl_eval_machine.specs.State.{above, floor, Ordered, frames_of, slots_of, stack_of, local_of, left_with, Fits}
use Rattle.nesl_eval_machine.specs.Steps.{Steps}
use Rattle.nesl_eval_machine.proofs.Unwinding.{unwound_stuck, unwound_stack, floor_within, ordered_less}
use Rattle.nesl_eval_machine.proofs.Stepping.{steps_stuck, stuck_steps, steps_from}

few : (k : ℕ) (vs us : List Value) → length vs < k → taken k vs us ≡ None
few zero vs us h = absurd (omega arith)
few (suc k) [] us h = refl
few (suc k) (v ∷ vs) us h = few k vs (v ∷ us) (omega arith)

above_all : (k : ℕ) (st : List Value) → length (above k st) ≤ length st
above_all k st = let e = length-reverse (drop k st) in let d = dropped k st in omega arith
  where
    dropped : (k : ℕ) (xs : List Value) → length (drop k xs) ≤ length xs
    dropped zero xs = omega arith
    dropped (suc k) [] = omega arith
    dropped (suc k) (x ∷ xs) = let h = dropped k xs in omega arith

-- where the stack ends above its floor
above_long : (k : ℕ) (st : List Value) → k ≤ length st → length (above k st) + k ≡ length st
above_long k st h = let e = length-reverse (drop k st) in let d = dropped k st h in omega arith
  where
    dropped : (k : ℕ) (xs : List Value) → k ≤ length xs → length (drop k xs) + k ≡ length xs
    dropped zero xs h = omega arith
    dropped (suc k) [] h = absurd (omega arith)
    dropped (suc k) (x ∷ xs) h = let d = dropped k xs (omega arith) in omega arith

-- there are fewer
pub few_taken : {A U : Type 0} (t : Table) (m n : Machine A) (b : Block) (r : Result U Stop) (k : ℕ) (f : List Value × List Value → Out Value) →
    length m.stack.items < k → Steps t m r n b (left_with t m (given (taken k (local_of m) []) f))
few_taken t m n b r k f h =
    let long = length-map m.stack.items tree_of in
    let less = above_all (floor (frames_of m)) (stack_of m) in
    stuck_steps t m n b r _ (ap (λ o. given o f) (few k (local_of m) [] (omega arith)))

-- what is left where `k` values are taken, or some of them were not of the block
pub many_off : {A : Type 0} (t : Table) (m : Machine A) (s : Vec (code.Value A) A) (xs : List (code.Value A)) (k : ℕ) (f : List Value × List Value → Out Value) →
    m.stack.items ≡ s.items ++ xs → length xs ≡ k → Fits t m →
    let m1 : Machine A = record m { stack = s } in
    let o = left_with t m (given (taken k (local_of m) []) f) in
    (o ≡ stuck) ⊎ ((o ≡ left_with t m1 (f (map tree_of xs, local_of m1))) × Fits t m1)
many_off {A} t m s xs k f is count fits = by_test (nat_le (floor (frames_of m)) (length s.items)) refl
  where
    long : length (stack_of m) ≡ length s.items + k
    long = length-map m.stack.items tree_of ∙ ap length is ∙ length-append s.items xs ∙ ap (λ j. length s.items + j) count

    by_test : (q : Bool) → nat_le (floor (frames_of m)) (length s.items) ≡ q →
        (left_with t m (given (taken k (local_of m) []) f) ≡ stuck)
        ⊎ ((left_with t m (given (taken k (local_of m) []) f) ≡ left_with t (record m { stack = s }) (f (map tree_of xs, local_of (record m { stack = s })))) × Fits t (record m { stack = s }))
    by_test true e =
        let fs = frames_of m in
        let st : List Value = map tree_of s.items in
        let ys : List Value = map tree_of xs in
        let within : floor fs ≤ length s.items = grind (arith, nat_tests) in
        let within_st : floor fs ≤ length st = omega (arith, length-map s.items tree_of) in
        let ordered : Ordered fs (length m.slots.items) (length s.items) = ordered_less fs _ (length m.stack.items) _ fits.1 within in
        let same : stack_of m ≡ st ++ ys = ap (map tree_of) is ∙ map-append tree_of s.items xs in
        let inner : local_of m ≡ reverse ys ++ above (floor fs) st =
        ap (above (floor fs)) same ∙ ap reverse (drop-append-le (floor fs) st ys within_st) ∙ reverse-append (drop (floor fs) st) ys in
        let below : take (floor fs) (stack_of m) ≡ take (floor fs) st = ap (take (floor fs)) same ∙ take-append-le (floor fs) st ys within_st in
        let so_many : k ≡ length (reverse ys) = omega (arith, count, length-reverse ys, length-map xs tree_of) in
        let off : taken k (local_of m) [] ≡ Some (ys, above (floor fs) st) =
        ap (λ l. taken k l []) inner ∙ taken_all k (reverse ys) (above (floor fs) st) so_many ∙ ap (λ l. Some (l, above (floor fs) st)) (reverse-reverse ys) in
        inr (ap (λ o. left_with t m (given o f)) off ∙ unwound_stack t fs (slots_of m) (stack_of m) st _ below, (fits.0, ordered, fits.2))
    by_test false e =
        let past : length s.items < floor (frames_of m) = grind (arith, nat_tests) in
        let low : floor (frames_of m) ≤ length m.stack.items = floor_within (frames_of m) (length m.slots.items) (length m.stack.items) fits.1 in
        let whole = length-map m.stack.items tree_of in
        let local = above_long (floor (frames_of m)) (stack_of m) (omega arith) in
        let less : length (local_of m) < k = omega (arith, long) in
        inl (ap (left_with t m) (ap (λ o. given o f) (few k (local_of m) [] less)) ∙ unwound_stuck t (frames_of m) (slots_of m) (stack_of m))

pub many_taken : {A U : Type 0} (t : Table) (m n : Machine A) (b : Block) (s : Vec (code.Value A) A) (xs : List (code.Value A)) (r : Result U Stop) (k : ℕ) (f : List Value × List Value → Out Value) →
    m.stack.items ≡ s.items ++ xs → length xs ≡ k → Fits t m →
    (Fits t (record m { stack = s }) → Steps t (record m { stack = s }) r n b (left_with t (record m { stack = s }) (f (map tree_of xs, local_of (record m { stack = s }))))) →
    Steps t m r n b (left_with t m (given (taken k (local_of m) []) f))
many_taken t m n b s xs r k f is count fits next =
    elim (many_off t m s xs k f is count fits) [
      | inl e ↦ steps_stuck t m n b r _ e
      | inr e ↦ steps_from t m n b r _ _ e.0 (next e.1)
    ]
