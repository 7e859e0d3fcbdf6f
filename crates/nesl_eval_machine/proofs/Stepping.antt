-- Single steps.
use Rattle.std.proofs.lemmas.Bool.Decides.{nat_tests}
use Rattle.std.specs.Prelude.{nat_le, vec_len, MatchResult}
use Rattle.std.proofs.Common.{Bool, true, false, ◌≡◌, ℕ, ◌+◌, ◌<◌, ◌≤◌, refl, sym, ◌∙◌, ap, subst, arith, inl, inr, List, [], ◌∷◌, ◌++◌, map, length, take, reverse, Result, Ok, Err, Vec, ◌⊎◌}
use Rattle.std.proofs.lemmas.List.{take-append-le, map-append, length-map}
use Rattle.std.proofs.Math.ListN.{length-append, drop_of_length-le}
use Rattle.nesl_lex.specs.declared.token.Span.{Span}
use Rattle.nesl_scalars.specs.declared.trap.Trap.{Trap}
use Rattle.nesl_values.specs.View.{tree_of}
use Rattle.nesl_values.specs.declared.value.Value as code
use Rattle.nesl_eval_meaning.specs.Names.{Value}
use Rattle.nesl_eval_meaning.specs.Out.{Out, value, fault, stuck, after_cost, and_then}
use Rattle.nesl_eval_code.specs.Run.{Table}
use Rattle.nesl_eval_code.specs.Block.{Block}
use Rattle.nesl_eval_code.specs.Exec.{Places, exec}
use Rattle.nesl_eval_nodes.specs.declared.meter.Meter.{Meter}
use Rattle.nesl_eval_nodes.specs.declared.meter.Stop.{Stop}
use Rattle.nesl_eval_nodes.specs.declared.meter.Stop.TheVariants.{Fault, Over, Memory, Stuck}
use Rattle.nesl_eval_nodes.specs.Meets.{Meets, Is}
use Rattle.nesl_eval_machine.specs.declared.state.Frame.{Frame}
use Rattle.nesl_eval_machine.specs.declared.state.Machine.{Machine}
use Rattle.nesl_eval_machine.specs.State.{above, floor, unwound, Ordered, frames_of, slots_of, stack_of, env_of, local_of, left_with, left_at, Fits}
use Rattle.nesl_eval_machine.specs.Steps.{Goes, placed, Stops, Steps}
use Rattle.nesl_eval_rounds.proofs.Laws.{after_after, moved}
use Rattle.nesl_eval_machine.proofs.Unwinding.{unwound_stuck, unwound_fault, unwound_after, unwound_stack, floor_within, ordered_more, ordered_less, above_more}

-- an outcome that is stuck
pub steps_stuck : {A U : Type 0} (t : Table) (m n : Machine A) (b : Block) (r : Result U Stop) (o : Out Value) → o ≡ stuck → Steps t m r n b o
steps_stuck t m n b (Ok u) o e = inl e
steps_stuck t m n b (Err x) o e = subst (λ p. Stops (frames_of n) m.meter.fuel x n.meter.fuel p) (sym e) tt

pub stuck_steps : {A U : Type 0} (t : Table) (m n : Machine A) (b : Block) (r : Result U Stop) (o : Out Value) → o ≡ stuck → Steps t m r n b (left_with t m o)
stuck_steps t m n b r o e = steps_stuck t m n b r (left_with t m o) (ap (left_with t m) e ∙ unwound_stuck t (frames_of m) (slots_of m) (stack_of m))

pub steps_from : {A U : Type 0} (t : Table) (m n : Machine A) (b : Block) (r : Result U Stop) (o o' : Out Value) → o ≡ o' → Steps t m r n b o' → Steps t m r n b o
steps_from t m n b r o o' e h = subst (λ p. Steps t m r n b p) (sym e) h

pub memory_any : {A : Type 0} (fs : List (Frame A)) (f f' : ℕ) (o : Out Value) → Stops fs f Memory f' o
memory_any fs f f' (value x v d) = tt
memory_any fs f f' (fault k s v) = tt
memory_any fs f f' stuck = tt

pub over_any : {A : Type 0} (fs : List (Frame A)) (f f' w : ℕ) (o : Out Value) → f < w → Stops fs f Over f' (after_cost w 0 o)
over_any fs f f' w (value x v d) h = omega arith
over_any fs f f' w (fault k s v) h = omega arith
over_any fs f f' w stuck h = tt

-- a run under the machine's meter, and then what its value asks
pub run_goes : {A R X : Type 0} (T : R → X → Type 0) (t : Table) (m n : Machine A) (b : Block) (v : R) (p : Out X) (k : X → Out Value) →
    Meets T m.meter (Ok v) n.meter p → Fits t n →
    ((x : X) → T v x → unwound t (frames_of m) (slots_of m) (stack_of m) (after_cost 0 n.meter.depth (k x)) ≡ left_at t n b) →
    (left_with t m (and_then p k) ≡ stuck) ⊎ Goes t m.meter.fuel n b (left_with t m (and_then p k))
run_goes T t m n b v stuck k h fits same = inl (unwound_stuck t (frames_of m) (slots_of m) (stack_of m))
run_goes T t m n b v (fault f s w) k h fits same = absurd h
run_goes T t m n b v (value x w d) k h fits same = inr (record {
  work = w;
  spent = h.1;
  same =
      ap (unwound t (frames_of m) (slots_of m) (stack_of m)) (moved m.meter.depth w d n.meter.depth (k x) h.2)
      ∙ unwound_after t (frames_of m) (slots_of m) (stack_of m) w (after_cost 0 n.meter.depth (k x))
      ∙ ap (after_cost w 0) (same x h.0);
  fits = fits;
})

faulted : {A : Type 0} (t : Table) (fs : List (Frame A)) (sl : Places) (st : List Value) (k : Trap) (s : Span) (w : ℕ) →
    unwound t fs sl st (fault k s (0 + w)) ≡ fault k (placed fs s) w
faulted t fs sl st k s w =
    let p : 0 + w ≡ w = omega arith in
    ap (λ n. unwound t fs sl st (fault k s n)) p ∙ unwound_fault t fs sl st k s w

-- a run under the machine's meter that stopped
pub run_stops : {A R X : Type 0} (T : R → X → Type 0) (t : Table) (m : Machine A) (e : Stop) (r : Meter) (p : Out X) (k : X → Out Value) →
    Meets T m.meter (Err e) r p → Stops (frames_of m) m.meter.fuel e r.fuel (left_with t m (and_then p k))
run_stops T t m e r stuck k h =
    subst (λ q. Stops (frames_of m) m.meter.fuel e r.fuel q) (sym (unwound_stuck t (frames_of m) (slots_of m) (stack_of m))) tt
run_stops T t m (Fault k' s') r (value x w d) k h = absurd h
run_stops T t m Over r (value x w d) k h =
    subst (λ q. Stops (frames_of m) m.meter.fuel Over r.fuel q)
    (sym (ap (unwound t (frames_of m) (slots_of m) (stack_of m)) (moved m.meter.depth w d (m.meter.depth + d) (k x) refl)
    ∙ unwound_after t (frames_of m) (slots_of m) (stack_of m) w (after_cost 0 (m.meter.depth + d) (k x))))
    (over_any (frames_of m) m.meter.fuel r.fuel w _ h)
run_stops T t m Memory r p k h = memory_any (frames_of m) m.meter.fuel r.fuel _
run_stops T t m Stuck r (value x w d) k h = absurd h
run_stops T t m (Fault k' s') r (fault f s w) k h =
    subst (λ q. Stops (frames_of m) m.meter.fuel (Fault k' s') r.fuel q)
    (sym (faulted t (frames_of m) (slots_of m) (stack_of m) f s w))
    (h.0, ap (placed (frames_of m)) h.1, h.2)
run_stops T t m Over r (fault f s w) k h =
    subst (λ q. Stops (frames_of m) m.meter.fuel Over r.fuel q)
    (sym (faulted t (frames_of m) (slots_of m) (stack_of m) f s w)) h
run_stops T t m Stuck r (fault f s w) k h = absurd h

-- what is left after work
pub stops_after : {A : Type 0} (fs : List (Frame A)) (x : Stop) (f f1 f' w : ℕ) (p : Out Value) → f ≡ f1 + w → Stops fs f1 x f' p → Stops fs f x f' (after_cost w 0 p)
stops_after fs x f f1 f' w stuck e h = tt
stops_after fs (Fault k s) f f1 f' w (value x v d) e h = h
stops_after fs Over f f1 f' w (value x v d) e h = omega arith
stops_after fs Memory f f1 f' w (value x v d) e h = tt
stops_after fs Stuck f f1 f' w (value x v d) e h = h
stops_after fs (Fault k s) f f1 f' w (fault k' s' v) e h = (h.0, h.1, omega (arith, h.2))
stops_after fs Over f f1 f' w (fault k' s' v) e h = omega arith
stops_after fs Memory f f1 f' w (fault k' s' v) e h = tt
stops_after fs Stuck f f1 f' w (fault k' s' v) e h = h

pub steps_after : {A U : Type 0} (t : Table) (m m1 n : Machine A) (b : Block) (r : Result U Stop) (w : ℕ) (p : Out Value) →
    m.meter.fuel ≡ m1.meter.fuel + w → Steps t m1 r n b p → Steps t m r n b (after_cost w 0 p)
steps_after t m m1 n b (Err x) w p f h = stops_after (frames_of n) x m.meter.fuel m1.meter.fuel n.meter.fuel w p f h
steps_after t m m1 n b (Ok u) w p f (inl e) = inl (ap (after_cost w 0) e)
steps_after t m m1 n b (Ok u) w p f (inr h) = inr (record {
  work = w + h.work;
  spent = omega (arith, f, h.spent);
  same = ap (after_cost w 0) h.same ∙ after_after w 0 h.work 0 (left_at t n b) ∙ ap (λ d. after_cost (w + h.work) d (left_at t n b)) nothing;
  fits = h.fits;
})
  where
    nothing : 0 + 0 ≡ 0
    nothing = omega arith

-- one step, and then another
pub then_steps : {A U V : Type 0} (t : Table) (m m1 n : Machine A) (c b : Block) (u : U) (r : Result V Stop) (o : Out Value) →
    Steps t m (Ok u) m1 c o → (Fits t m1 → Steps t m1 r n b (left_at t m1 c)) → Steps t m r n b o
then_steps t m m1 n c b u r o (inl e) h = steps_stuck t m n b r o e
then_steps t m m1 n c b u r o (inr g) h =
    steps_from t m n b r o _ g.same (steps_after t m m1 n b r g.work (left_at t m1 c) g.spent (h g.fits))

-- values that are pushed
pub mapped : {A : Type 0} (xs ys : List (code.Value A)) (v : code.Value A) → ys ≡ xs ++ v ∷ [] → map tree_of ys ≡ map tree_of xs ++ tree_of v ∷ []
mapped xs ys v e = ap (map tree_of) e ∙ map-append tree_of xs (v ∷ [])

pub one_longer : {A : Type 0} (xs ys : List (code.Value A)) (v : code.Value A) → ys ≡ xs ++ v ∷ [] → length ys ≡ length xs + 1
one_longer xs ys v e = ap length e ∙ length-append xs (v ∷ [])

pub pushed : {A : Type 0} (t : Table) (m : Machine A) (b : Block) (stack : Vec (code.Value A) A) (r : Meter) (v : code.Value A) (p : Out Value) →
    stack.items ≡ m.stack.items ++ v ∷ [] → Meets Is m.meter (Ok v) r p → Fits t m →
    let k : Value → Out Value = λ x. exec t m.levels (env_of m) b (x ∷ local_of m) in
    (left_with t m (and_then p k) ≡ stuck) ⊎ Goes t m.meter.fuel (record m { stack = stack; meter = r }) b (left_with t m (and_then p k))
pushed t m b stack r v p more h fits =
    let n : Machine _ = record m { stack = stack; meter = r } in
    let fs = frames_of m in
    let st = stack_of m in
    let longer = one_longer m.stack.items stack.items v more in
    let within : floor fs ≤ length m.stack.items = floor_within fs (length m.slots.items) (length m.stack.items) fits.1 in
    let ordered : Ordered fs (length m.slots.items) (length stack.items) = ordered_more fs _ (length m.stack.items) _ _ fits.1 (omega arith) (omega arith) in
    let within_st : floor fs ≤ length st = omega (arith, length-map m.stack.items tree_of) in
    run_goes Is t m n b v p (λ x. exec t m.levels (env_of m) b (x ∷ local_of m)) h
    (fits.0, ordered, fits.2)
    (λ x e.
    let same : map tree_of stack.items ≡ st ++ x ∷ [] = mapped m.stack.items stack.items v more ∙ ap (λ y. st ++ y ∷ []) e in
    let inner : above (floor fs) (map tree_of stack.items) ≡ x ∷ local_of m = ap (above (floor fs)) same ∙ above_more (floor fs) st x within_st in
    let below : take (floor fs) st ≡ take (floor fs) (map tree_of stack.items) = sym (ap (take (floor fs)) same ∙ take-append-le (floor fs) st (x ∷ []) within_st) in
    unwound_stack t fs (slots_of m) st (map tree_of stack.items) _ below
    ∙ ap (λ l. unwound t fs (slots_of m) (map tree_of stack.items) (after_cost 0 r.depth (exec t m.levels (env_of m) b l))) (sym inner))

-- the same, where there may have been no room
pub kept_steps : {A : Type 0} (t : Table) (m : Machine A) (b : Block) (stack : Vec (code.Value A) A) (r : Meter) (v : code.Value A) (p : Out Value) (u : Result (Unit {0}) Stop) →
    MatchResult u (λ x. stack.items ≡ m.stack.items ++ v ∷ []) (λ e. e ≡ Memory) → Meets Is m.meter (Ok v) r p → Fits t m →
    Steps t m u (record m { stack = stack; meter = r }) b (left_with t m (and_then p (λ x. exec t m.levels (env_of m) b (x ∷ local_of m))))
kept_steps t m b stack r v p (Ok x) more h fits = pushed t m b stack r v p more h fits
kept_steps t m b stack r v p (Err e) more h fits =
    let o = left_with t m (and_then p (λ x. exec t m.levels (env_of m) b (x ∷ local_of m))) in
    subst (λ e. Stops (frames_of m) m.meter.fuel e r.fuel o) (sym more) (memory_any (frames_of m) m.meter.fuel r.fuel o)

-- a stack that ends below its floor has nothing above it
pub all_dropped : (k : ℕ) (xs : List Value) → length xs ≤ k → above k xs ≡ []
all_dropped k xs h = ap reverse (drop_of_length-le xs h)

-- nothing is on the stack
pub nothing_popped : {A U : Type 0} (t : Table) (m n : Machine A) (b : Block) (r : Result U Stop) (f : List Value → Out Value) →
    vec_len m.stack ≡ 0 → f [] ≡ stuck → Steps t m r n b (left_with t m (f (local_of m)))
nothing_popped t m n b r f none h =
    let empty : length (stack_of m) ≤ floor (frames_of m) = omega (arith, length-map m.stack.items tree_of, m.stack.ok.0) in
    stuck_steps t m n b r (f (local_of m)) (ap f (all_dropped (floor (frames_of m)) (stack_of m) empty) ∙ h)

-- what is left where a value is taken off the stack
pub off : {A : Type 0} (t : Table) (m : Machine A) (s : Vec (code.Value A) A) (x : code.Value A) (f : List Value → Out Value) →
    m.stack.items ≡ s.items ++ x ∷ [] → f [] ≡ stuck → Fits t m →
    let m1 : Machine A = record m { stack = s } in
    (left_with t m (f (local_of m)) ≡ stuck) ⊎ ((left_with t m (f (local_of m)) ≡ left_with t m1 (f (tree_of x ∷ local_of m1))) × Fits t m1)
off {A} t m s x f is h fits = by_test (nat_le (floor (frames_of m)) (length s.items)) refl
  where
    m1 : Machine A
    m1 = record m { stack = s }

    by_test : (q : Bool) → nat_le (floor (frames_of m)) (length s.items) ≡ q →
        (left_with t m (f (local_of m)) ≡ stuck) ⊎ ((left_with t m (f (local_of m)) ≡ left_with t (record m { stack = s }) (f (tree_of x ∷ local_of (record m { stack = s })))) × Fits t (record m { stack = s }))
    by_test true e =
        let fs = frames_of m in
        let st : List Value = map tree_of s.items in
        let within : floor fs ≤ length s.items = grind (arith, nat_tests) in
        let within_st : floor fs ≤ length st = omega (arith, length-map s.items tree_of) in
        let ordered : Ordered fs (length m.slots.items) (length s.items) = ordered_less fs _ (length m.stack.items) _ fits.1 within in
        let same : stack_of m ≡ st ++ tree_of x ∷ [] = mapped s.items m.stack.items x is in
        let inner : local_of m ≡ tree_of x ∷ above (floor fs) st = ap (above (floor fs)) same ∙ above_more (floor fs) st (tree_of x) within_st in
        let below : take (floor fs) (stack_of m) ≡ take (floor fs) st = ap (take (floor fs)) same ∙ take-append-le (floor fs) st (tree_of x ∷ []) within_st in
        inr (ap (λ l. left_with t m (f l)) inner ∙ unwound_stack t fs (slots_of m) (stack_of m) st _ below, (fits.0, ordered, fits.2))
    by_test false e =
        let longer = one_longer s.items m.stack.items x is in
        let past : length s.items < floor (frames_of m) = grind (arith, nat_tests) in
        let empty : length (stack_of m) ≤ floor (frames_of m) = omega (arith, length-map m.stack.items tree_of) in
        inl (ap (left_with t m) (ap f (all_dropped (floor (frames_of m)) (stack_of m) empty) ∙ h) ∙ unwound_stuck t (frames_of m) (slots_of m) (stack_of m))

-- a value that is taken off the stack
pub popped : {A U : Type 0} (t : Table) (m n : Machine A) (b : Block) (s : Vec (code.Value A) A) (x : code.Value A) (r : Result U Stop) (f : List Value → Out Value) →
    m.stack.items ≡ s.items ++ x ∷ [] → f [] ≡ stuck → Fits t m →
    (Fits t (record m { stack = s }) → Steps t (record m { stack = s }) r n b (left_with t (record m { stack = s }) (f (tree_of x ∷ local_of (record m { stack = s }))))) →
    Steps t m r n b (left_with t m (f (local_of m)))
popped t m n b s x r f is h fits next =
    elim (off t m s x f is h fits) [
      | inl e ↦ steps_stuck t m n b r _ e
      | inr e ↦ steps_from t m n b r _ _ e.0 (next e.1)
    ]
