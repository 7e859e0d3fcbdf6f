-- Moves, and values at hand.
use Rattle.std.specs.Prelude.{vec_len}
use Rattle.std.proofs.Common.{◌≡◌, ℕ, ◌+◌, ◌≤◌, refl, sym, ◌∙◌, ap, subst, arith, inl, inr, ◌⊎◌, List, [], ◌∷◌, ◌++◌, map, length, take, reverse, Vec, Result, Ok, Err, Bor}
use Rattle.std.proofs.lemmas.List.{length-map}
use Rattle.nesl_values.specs.View.{tree_of}
use Rattle.nesl_values.specs.declared.value.Value as code
use Rattle.nesl_eval_meaning.specs.Names.{Value}
use Rattle.nesl_eval_meaning.specs.Out.{Out, value, fault, stuck, after_cost, and_then, given}
use Rattle.nesl_eval_code.specs.Run.{Table}
use Rattle.nesl_eval_code.specs.Block.{Block, finish}
use Rattle.nesl_eval_code.specs.Exec.{Places, exec, taken}
use Rattle.nesl_eval_ops.specs.declared.ops.Ops.{Ops}
use Rattle.nesl_eval_ops.specs.View.{block_of}
use Rattle.nesl_eval_nodes.specs.declared.meter.Meter.{Meter}
use Rattle.nesl_eval_nodes.specs.declared.meter.Stop.{Stop}
use Rattle.nesl_eval_nodes.specs.Meets.{Meets, Is}
use Rattle.nesl_eval_machine.specs.declared.state.Frame.{Frame}
use Rattle.nesl_eval_machine.specs.declared.state.Hand.{Hand}
use Rattle.nesl_eval_machine.specs.declared.state.Hand.TheVariants.{Empty, Holds, Done}
use Rattle.nesl_eval_machine.specs.declared.state.Machine.{Machine}
use Rattle.nesl_eval_machine.specs.State.{floor, resumed, unwound, Ordered, frames_of, slots_of, stack_of, env_of, local_of, left_with, left_at, left, left_at_hand, Fits}
use Rattle.nesl_eval_rounds.specs.Leads.{Leads}
use Rattle.nesl_eval_machine.specs.Steps.{Goes, Stops, Steps, Gives, Moves, empty_handed, in_hand, Ends, placed_stop}
use Rattle.nesl_eval_rounds.proofs.Laws.{after_none, after_after, moved}
use Rattle.nesl_eval_machine.proofs.Unwinding.{unwound_stuck, unwound_after}
use Rattle.nesl_eval_machine.proofs.Stepping.{run_stops, stops_after, pushed, off, all_dropped}
use Rattle.nesl_eval_machine.proofs.Taking.{many_off}
use Rattle.nesl_eval_machine.proofs.Ending.{value_is, block_ended}
use Rattle.nesl_eval_machine.proofs.Whole.{stops_placed}

pub moves_stuck : {A : Type 0} (t : Table) (m n : Machine A) (r : Result (Hand A) Stop) (o : Out Value) → o ≡ stuck → Moves t m r n o
moves_stuck t m n (Ok h) o e = inl e
moves_stuck t m n (Err x) o e = subst (λ p. Stops (frames_of n) m.meter.fuel x n.meter.fuel p) (sym e) tt

pub stuck_moves : {A : Type 0} (t : Table) (m n : Machine A) (r : Result (Hand A) Stop) (o : Out Value) → o ≡ stuck → Moves t m r n (left_with t m o)
stuck_moves t m n r o e = moves_stuck t m n r (left_with t m o) (ap (left_with t m) e ∙ unwound_stuck t (frames_of m) (slots_of m) (stack_of m))

pub moves_from : {A : Type 0} (t : Table) (m n : Machine A) (r : Result (Hand A) Stop) (o o' : Out Value) → o ≡ o' → Moves t m r n o' → Moves t m r n o
moves_from t m n r o o' e h = subst (λ p. Moves t m r n p) (sym e) h

-- a step leaves nothing at hand
pub steps_move : {A U : Type 0} (t : Table) (m n : Machine A) (u : Result U Stop) (r : Result (Hand A) Stop) (o : Out Value) → r ≡ empty_handed u → Steps t m u n (block_of n.code.now) o → Moves t m r n o
steps_move t m n (Ok u) r o e h = subst (λ x. Moves t m x n o) (sym e) h
steps_move t m n (Err x) r o e h = subst (λ y. Moves t m y n o) (sym e) h

-- a value that was found under the machine's meter is at hand
pub found_moves : {A : Type 0} (t : Table) (m : Machine A) (meter : Meter) (found : Result (code.Value A) Stop) (next : Bor Ops) (r : Result (Hand A) Stop) (p : Out Value) →
    r ≡ in_hand found next → Meets Is m.meter found meter p → Fits t m →
    Moves t m r (record m { meter = meter }) (left_with t m (and_then p (λ x. exec t m.levels (env_of m) (block_of next.now) (x ∷ local_of m))))
found_moves {A} t m meter found next r p e h fits = subst (λ x. Moves t m x n (left_with t m (and_then p k))) (sym e) (by_found found p h)
  where
    n : Machine A
    n = record m { meter = meter }

    k : Value → Out Value
    k = λ x. exec t m.levels (env_of m) (block_of next.now) (x ∷ local_of m)

    by_found : (found : Result (code.Value A) Stop) (p : Out Value) → Meets (Is {A = A}) m.meter found meter p → Moves t m (in_hand found next) n (left_with t m (and_then p k))
    by_found (Err x) p h = run_stops (Is {A = A}) t m x meter p k h
    by_found (Ok v) stuck h = inl (unwound_stuck t (frames_of m) (slots_of m) (stack_of m))
    by_found (Ok v) (fault f s w) h = absurd h
    by_found (Ok v) (value x w d) h = inr (record {
      work = w;
      spent = h.1;
      same =
          ap (unwound t (frames_of m) (slots_of m) (stack_of m)) (moved m.meter.depth w d meter.depth (k x) h.2)
          ∙ unwound_after t (frames_of m) (slots_of m) (stack_of m) w (after_cost 0 meter.depth (k x))
          ∙ ap (λ y. after_cost w 0 (left_with t n (k y))) (sym h.0);
      fits = fits;
    })

-- a value at hand is put on the stack
pub set_down : {A : Type 0} (t : Table) (m : Machine A) (b : Block) (stack : Vec (code.Value A) A) (v : code.Value A) →
    stack.items ≡ m.stack.items ++ v ∷ [] → Fits t m →
    let o = left_with t m (exec t m.levels (env_of m) b (tree_of v ∷ local_of m)) in
    (o ≡ stuck) ⊎ Goes t m.meter.fuel (record m { stack = stack }) b o
set_down {A} t m b stack v more fits =
    let o = exec t m.levels (env_of m) b (tree_of v ∷ local_of m) in
    let n : Machine A = record m { stack = stack } in
    subst (λ p. (left_with t m p ≡ stuck) ⊎ Goes t m.meter.fuel n b (left_with t m p)) (after_none o)
    (pushed t m b stack m.meter v (value (tree_of v) 0 0) more (refl, omega arith, omega arith) fits)

-- the stack does not matter to what a move is
under_stack : {A : Type 0} (t : Table) (m n : Machine A) (s : Vec (code.Value A) A) (r : Result (Hand A) Stop) (o : Out Value) → Moves t (record m { stack = s }) r n o → Moves t m r n o
under_stack t m n s (Ok y) o h = h
under_stack t m n s (Err y) o h = h

-- a value is taken off the stack, or there is none
pub popped_moves : {A : Type 0} (t : Table) (m n : Machine A) (s : Vec (code.Value A) A) (x : code.Value A) (r : Result (Hand A) Stop) (f : List Value → Out Value) →
    m.stack.items ≡ s.items ++ x ∷ [] → f [] ≡ stuck → Fits t m →
    (Fits t (record m { stack = s }) → Moves t (record m { stack = s }) r n (left_with t (record m { stack = s }) (f (tree_of x ∷ local_of (record m { stack = s }))))) →
    Moves t m r n (left_with t m (f (local_of m)))
popped_moves t m n s x r f is h fits next =
    elim (off t m s x f is h fits) [
      | inl e ↦ moves_stuck t m n r _ e
      | inr e ↦ moves_from t m n r _ _ e.0 (under_stack t m n s r _ (next e.1))
    ]

pub none_moves : {A : Type 0} (t : Table) (m n : Machine A) (r : Result (Hand A) Stop) (f : List Value → Out Value) →
    vec_len m.stack ≡ 0 → f [] ≡ stuck → Moves t m r n (left_with t m (f (local_of m)))
none_moves t m n r f none h =
    let empty : length (stack_of m) ≤ floor (frames_of m) = omega (arith, length-map m.stack.items tree_of, m.stack.ok.0) in
    stuck_moves t m n r (f (local_of m)) (ap f (all_dropped (floor (frames_of m)) (stack_of m) empty) ∙ h)

-- a value that is at hand before what is next
pub held_moves : {A : Type 0} (t : Table) (m : Machine A) (v : code.Value A) (next : Bor Ops) → Fits t m → Moves t m (Ok (Holds v next)) m (left_at_hand t m (Holds v next))
held_moves t m v next fits = inr (record {
  work = 0;
  spent = omega arith;
  same = sym (after_none (left_at_hand t m (Holds v next)));
  fits = fits;
})

-- nothing is done
pub nothing_moves : {A : Type 0} (t : Table) (m : Machine A) → Fits t m → Moves t m (Ok Empty) m (left t m)
nothing_moves t m fits = inr (record {
  work = 0;
  spent = omega arith;
  same = sym (after_none (left t m));
  fits = fits;
})

-- so far, and one move more
moves_after : {A : Type 0} (t : Table) (m m1 n : Machine A) (r : Result (Hand A) Stop) (w : ℕ) (p : Out Value) → m.meter.fuel ≡ m1.meter.fuel + w → Moves t m1 r n p → Moves t m r n (after_cost w 0 p)
moves_after t m m1 n (Err x) w p f h = stops_after (frames_of n) x m.meter.fuel m1.meter.fuel n.meter.fuel w p f h
moves_after t m m1 n (Ok k) w p f (inl e) = inl (ap (after_cost w 0) e)
moves_after t m m1 n (Ok k) w p f (inr h) = inr (record {
  work = w + h.work;
  spent = omega (arith, f, h.spent);
  same = ap (after_cost w 0) h.same ∙ after_after w 0 h.work 0 (left_at_hand t n k) ∙ ap (λ d. after_cost (w + h.work) d (left_at_hand t n k)) nothing;
  fits = h.fits;
})
  where
    nothing : 0 + 0 ≡ 0
    nothing = omega arith

pub then_moves : {A : Type 0} (t : Table) (m m1 n : Machine A) (h : Hand A) (r : Result (Hand A) Stop) (o : Out Value) →
    ((o ≡ stuck) ⊎ Leads m.meter.fuel m1.meter.fuel o (left_at_hand t m1 h) (Fits t m1)) → (Fits t m1 → Moves t m1 r n (left_at_hand t m1 h)) → Moves t m r n o
then_moves t m m1 n h r o (inl e) next = moves_stuck t m n r o e
then_moves t m m1 n h r o (inr g) next = moves_from t m n r o _ g.same (moves_after t m m1 n r g.work (left_at_hand t m1 h) g.spent (next g.fits))

-- one step, and then a move
pub step_moves : {A U : Type 0} (t : Table) (m m1 n : Machine A) (c : Block) (u : U) (r : Result (Hand A) Stop) (o : Out Value) →
    Steps t m (Ok u) m1 c o → (Fits t m1 → Moves t m1 r n (left_at t m1 c)) → Moves t m r n o
step_moves t m m1 n c u r o (inl e) next = moves_stuck t m n r o e
step_moves t m m1 n c u r o (inr g) next = moves_from t m n r o _ g.same (moves_after t m m1 n r g.work (left_at t m1 c) g.spent (next g.fits))

-- `k` values are taken off the stack, or there are fewer
pub many_moves : {A : Type 0} (t : Table) (m n : Machine A) (s : Vec (code.Value A) A) (xs : List (code.Value A)) (r : Result (Hand A) Stop) (k : ℕ) (f : List Value × List Value → Out Value) →
    m.stack.items ≡ s.items ++ xs → length xs ≡ k → Fits t m →
    (Fits t (record m { stack = s }) → Moves t (record m { stack = s }) r n (left_with t (record m { stack = s }) (f (map tree_of xs, local_of (record m { stack = s }))))) →
    Moves t m r n (left_with t m (given (taken k (local_of m) []) f))
many_moves t m n s xs r k f is count fits next =
    elim (many_off t m s xs k f is count fits) [
      | inl e ↦ moves_stuck t m n r _ e
      | inr e ↦ moves_from t m n r _ _ e.0 (under_stack t m n s r _ (next e.1))
    ]

-- the last value stays at hand
pub done_moves : {A : Type 0} (t : Table) (m : Machine A) (v : code.Value A) → Fits t m → Moves t m (Ok (Done v)) m (left_at_hand t m (Done v))
done_moves t m v fits = inr (record {
  work = 0;
  spent = omega arith;
  same = sym (after_none (left_at_hand t m (Done v)));
  fits = fits;
})

-- the last value, and a run that stopped
pub ends_done : {A : Type 0} (t : Table) (m n : Machine A) (v : code.Value A) (o : Out Value) → Moves t m (Ok (Done v)) n o → Ends m (Ok v) n o
ends_done t m n v stuck h = tt
ends_done t m n v (value x w d) (inl e) = absurd (cc e)
ends_done t m n v (fault k s w) (inl e) = absurd (cc e)
ends_done t m n v (value x w d) (inr h) = by_value (value x w d) h.same
  where
    by_value : (o : Out Value) → o ≡ value (tree_of v) (h.work + 0) (0 + n.meter.depth) → Gives m v n o
    by_value stuck e = tt
    by_value (fault k s w) e = absurd (cc e)
    by_value (value x w d) e =
        let x' : tree_of v ≡ x = cc e in
        let w' : w ≡ h.work + 0 = cc e in
        let d' : d ≡ 0 + n.meter.depth = cc e in
        (x', omega (arith, h.spent, w'), omega (arith, d'))
ends_done t m n v (fault k s w) (inr h) = absurd (cc h.same)

pub ends_stopped_at : {A : Type 0} (t : Table) (m n : Machine A) (e : Stop) (o : Out Value) → Moves t m (Err e) n o → Ends m (Err (placed_stop (frames_of n) e)) n o
ends_stopped_at t m n e o h = stops_placed (frames_of n) m.meter.fuel e n.meter.fuel o h

no_items : {X : Type 0} (xs : List X) → length xs ≡ 0 → xs ≡ []
no_items [] h = refl
no_items (x ∷ xs) h = absurd (omega arith)

-- a block that ended with the value at hand, where no frame waited
pub last_at_hand : {A : Type 0} (t : Table) (m : Machine A) (frames : Vec (Frame A) A) (v : code.Value A) → vec_len m.frames ≡ 0 → vec_len frames ≡ 0 → Fits t m →
    Moves t m (Ok (Done v)) (record m { frames = frames }) (left_with t m (exec t m.levels (env_of m) finish (tree_of v ∷ local_of m)))
last_at_hand {A} t m frames v none still fits = by_local (local_of m) refl
  where
    n : Machine A
    n = record m { frames = frames }

    o : List Value → Out Value
    o = λ l. left_with t m (exec t m.levels (env_of m) finish (tree_of v ∷ l))

    by_local : (vs : List Value) → local_of m ≡ vs → Moves t m (Ok (Done v)) n (o (local_of m))
    by_local (u ∷ vs) e = inl (ap o e ∙ unwound_stuck t (frames_of m) (slots_of m) (stack_of m))
    by_local [] e =
        let flat : m.frames.items ≡ [] = no_items m.frames.items (omega (arith, none, m.frames.ok.0)) in
        let flat_still : frames.items ≡ [] = no_items frames.items (omega (arith, still, frames.ok.0)) in
        inr (record {
          work = 0;
          spent = omega arith;
          same =
              ap o e
              ∙ ap (λ l. unwound t (reverse l) (slots_of m) (stack_of m) (after_cost 0 m.meter.depth (value (tree_of v) 0 0))) flat
              ∙ value_is (omega arith) (omega arith);
          fits = (fits.0, subst (λ l. Ordered (reverse l) (length m.slots.items) (length m.stack.items)) (sym flat_still) tt, fits.2);
        })

-- a block that ended with the value at hand: it is at hand where the frame waited
pub resumed_with : {A : Type 0} (t : Table) (m : Machine A) (f : Frame A) (before : Vec (Frame A) A) (slots : Vec (code.Value A) A) (v : code.Value A) →
    before.items ≡ m.frames.items ++ f ∷ [] → Fits t (record m { frames = before }) → slots.items ≡ take f.len m.slots.items →
    ((env : Places) (st : List Value) (v : Value) (w d : ℕ) → resumed t f env st (value v w d) ≡ after_cost w d (exec t f.levels env (block_of f.next.now) (v ∷ st))) →
    let m0 : Machine A = record m { frames = before } in
    Moves t m0 (Ok (Holds v f.next)) (record m { slots = slots; base = f.base; levels = f.levels }) (left_with t m0 (exec t m.levels (env_of m) finish (tree_of v ∷ local_of m0)))
resumed_with {A} t m f before slots v is fits cut plain =
    let n : Machine A = record m { slots = slots; base = f.base; levels = f.levels } in
    elim (block_ended t m f before slots.items v is fits cut) [
      | inl e ↦ inl e
      | inr e ↦ inr (record {
        work = 0;
        spent = omega arith;
        same =
            e.left
            ∙ ap (unwound t (frames_of m) (slots_of n) (stack_of m)) (plain (env_of n) (local_of m) (tree_of v) 0 m.meter.depth)
            ∙ sym (after_none (left_at_hand t n (Holds v f.next)));
        fits = (fits.0, e.ordered, e.base);
      })
    ]
