-- Turns that were taken together.
use Rattle.std.proofs.Common.{◌≡◌, ℕ, ◌+◌, ◌-◌, refl, sym, ◌∙◌, ap, subst, arith, inl, inr, List, [], ◌++◌, map, length, take, drop, reverse, Result, Ok, Err, Global}
use Rattle.std.specs.Prelude.{MatchResult}
use Rattle.nesl_lex.specs.declared.token.Span.{Span}
use Rattle.nesl_values.specs.View.{tree_of}
use Rattle.nesl_eval_meaning.specs.Names.{Value}
use Rattle.nesl_eval_meaning.specs.Out.{Out, value, fault, stuck, after_cost}
use Rattle.nesl_eval_code.specs.Frames.{row}
use Rattle.nesl_eval_code.specs.Run.{Table}
use Rattle.nesl_eval_code.specs.Block.{Block, each, filtered}
use Rattle.nesl_eval_code.specs.Exec.{Places, exec}
use Rattle.nesl_eval_ops.specs.View.{block_of, body_block}
use Rattle.nesl_eval_nodes.specs.declared.meter.Meter.{Meter}
use Rattle.nesl_eval_nodes.specs.declared.meter.Stop.{Stop}
use Rattle.nesl_eval_nodes.specs.declared.meter.Stop.TheVariants.{Fault, Over, Memory, Stuck}
use Rattle.nesl_eval_nodes.specs.Meets.{Meets, Is}
use Rattle.nesl_eval_rounds.specs.declared.state.Round.{Round}
use Rattle.nesl_eval_machine.specs.declared.state.Machine.{Machine}
use Rattle.nesl_eval_machine.specs.declared.state.Frame.{Frame}
use Rattle.nesl_values.specs.declared.value.Value as code
use Rattle.nesl_eval_rounds.specs.Rounds.{gathering, between}
use Rattle.nesl_eval_machine.specs.State.{places_of, unwound, above, floor, frames_of, slots_of, stack_of, env_of, local_of, left, left_at, HasBodies, Fits}
use Rattle.nesl_eval_machine.specs.Steps.{Stops, Ends, Steps, Advances}
use Rattle.nesl_eval_rounds.proofs.Laws.{fault_twice, after_none}
use Rattle.nesl_eval_machine.proofs.Unwinding.{unwound_stuck, unwound_fault, unwound_after}
use Rattle.nesl_eval_machine.proofs.Stepping.{over_any, memory_any, steps_stuck, steps_from, steps_after}
use Rattle.nesl_eval_machine.proofs.Whole.{fits_first}
use Rattle.nesl_eval_rounds.proofs.Columned.{gathered, twice}
use Rattle.nesl_eval_machine.proofs.Columned.{env_there, at_rest}
use Rattle.nesl_split.specs.declared.turns.Interval.{Interval}
use Rattle.nesl_split.specs.Intervals.{IsAtTurn, at_turn}
use Rattle.nesl_split.specs.Halves.{Came, Ran}

pub came_stuck : {U : Type 0} (f : ℕ) (r : Result U Stop) (f' : ℕ) (o p : Out Value) → o ≡ stuck → Came f r f' o p
came_stuck f (Ok u) f' o p e = inl e
came_stuck f (Err (Fault k s)) f' o p e = inl e
came_stuck f (Err Over) f' o p e = inl e
came_stuck f (Err Memory) f' o p e = tt
came_stuck f (Err Stuck) f' o p e = e

-- no turn was taken
pub came_none : {U : Type 0} (f : ℕ) (u : U) (o : Out Value) → Came f (Ok u) f o o
came_none f u o = inr (record {
  work = 0;
  spent = omega arith;
  same = sym (after_none o);
  fits = tt;
})

-- turns that were taken in columns
pub advances_came : {A U : Type 0} (t : Table) (m n : Machine A) (x : Result U Stop) (r0 r1 : Round A) (b : Block) (st : List Value) → Advances t m x n r0 r1 →
    Came m.meter.fuel x n.meter.fuel (between t m.levels b (env_of m) st r0) (between t m.levels b (env_of m) st r1)
advances_came t m n (Ok u) r0 r1 b st h = h b st
advances_came {U = U} t m n (Err e) r0 r1 b st h = subst (λ y. Came {U = U} m.meter.fuel (Err y) n.meter.fuel (between t m.levels b (env_of m) st r0) (between t m.levels b (env_of m) st r1)) (sym h) tt

-- turns that stopped
pub gathering_stops : {R X : Type 0} (U : Type 0) (T : R → List X → Type 0) (start most : ℕ) (done : List X) (k : List X → Out Value) (m m' : Meter) (e : Stop) (o : Out (List X)) (p : Out Value) →
    Meets T m (Err e) m' o → Came {U = U} m.fuel (Err e) m'.fuel (gathering start most done o k) p
gathering_stops U T start most done k m m' e stuck p h = came_stuck {U = U} m.fuel (Err e) m'.fuel (gathering start most done stuck k) p refl
gathering_stops U T start most done k m m' (Fault f s) (value xs w d) p h = absurd h
gathering_stops U T start most done k m m' Over (value xs w d) p h = inr (w, _, gathered start most done xs w d k, h)
gathering_stops U T start most done k m m' Memory (value xs w d) p h = tt
gathering_stops U T start most done k m m' Stuck (value xs w d) p h = absurd h
gathering_stops U T start most done k m m' (Fault f s) (fault f' s' w) p h =
    inr (w, fault_twice Value f' s' w ∙ ap (λ x. fault x s' w) (sym h.0) ∙ ap (λ x. fault f x w) (sym h.1), h.2)
gathering_stops U T start most done k m m' Over (fault f' s' w) p h =
    let e : 0 + (0 + w) ≡ w + 0 = omega arith in
    inr (w, fault f' s' 0, ap (λ n. fault f' s' n) e, h)
gathering_stops U T start most done k m m' Memory (fault f' s' w) p h = tt
gathering_stops U T start most done k m m' Stuck (fault f' s' w) p h = absurd h

-- turns that stopped stop the machine
pub came_stops : {A : Type 0} (U : Type 0) (t : Table) (fs : List (Frame A)) (sl : Places) (st : List Value) (e : Stop) (f f' : ℕ) (o p : Out Value) →
    Came {U = U} f (Err e) f' o p → Stops fs f e f' (unwound t fs sl st o)
came_stops U t fs sl st (Fault k s) f f' o p (inl e) = subst (Stops fs f (Fault k s) f') (sym (ap (unwound t fs sl st) e ∙ unwound_stuck t fs sl st)) tt
came_stops U t fs sl st (Fault k s) f f' o p (inr h) =
    subst (Stops fs f (Fault k s) f') (sym (ap (unwound t fs sl st) h.1 ∙ unwound_fault t fs sl st k s h.0)) (refl, refl, h.2)
came_stops U t fs sl st Over f f' o p (inl e) = subst (Stops fs f Over f') (sym (ap (unwound t fs sl st) e ∙ unwound_stuck t fs sl st)) tt
came_stops U t fs sl st Over f f' o p (inr h) =
    subst (Stops fs f Over f') (sym (ap (unwound t fs sl st) h.2 ∙ unwound_after t fs sl st h.0 h.1)) (over_any fs f f' h.0 (unwound t fs sl st h.1) h.3)
came_stops U t fs sl st Memory f f' o p h = memory_any fs f f' (unwound t fs sl st o)
came_stops U t fs sl st Stuck f f' o p h = subst (Stops fs f Stuck f') (sym (ap (unwound t fs sl st) h ∙ unwound_stuck t fs sl st)) tt

-- a whole run under a machine's own meter
pub meets_from : {A : Type 0} (m n : Machine A) (r : Result _ Stop) (o : Out Value) → Ends m r n (after_cost 0 m.meter.depth o) → Meets Is m.meter r n.meter o
meets_from m n r stuck h = tt
meets_from m n (Ok v) (value x w d) h = (h.0, omega (arith, h.1), h.2)
meets_from m n (Ok v) (fault k s w) h = h
meets_from m n (Err (Fault k s)) (value x w d) h = h
meets_from m n (Err Over) (value x w d) h = omega (arith, h)
meets_from m n (Err Memory) (value x w d) h = tt
meets_from m n (Err Stuck) (value x w d) h = h
meets_from m n (Err (Fault k s)) (fault k' s' w) h = (h.0, h.1, omega (arith, h.2))
meets_from m n (Err Over) (fault k' s' w) h = omega (arith, h)
meets_from m n (Err Memory) (fault k' s' w) h = tt
meets_from m n (Err Stuck) (fault k' s' w) h = h

-- turns that were taken, and then what comes after them
pub then_came : {A U V : Type 0} (t : Table) (m n : Machine A) (q : Meter) (b c : Block) (r0 r1 : Round A) (u : U) (x : Result V Stop) →
    Came m.meter.fuel (Ok u) q.fuel (between t m.levels b (env_of m) (local_of m) r0) (between t m.levels b (env_of m) (local_of m) r1) →
    Steps t (record m { meter = q }) x n c (at_rest t m b r1) → Steps t m x n c (at_rest t m b r0)
then_came t m n q b c r0 r1 u x (inl e) h =
    steps_stuck t m n c x (at_rest t m b r0) (ap (unwound t (frames_of m) (slots_of m) (stack_of m)) e ∙ unwound_stuck t (frames_of m) (slots_of m) (stack_of m))
then_came t m n q b c r0 r1 u x (inr l) h =
    steps_from t m n c x (at_rest t m b r0) _
    (ap (unwound t (frames_of m) (slots_of m) (stack_of m)) l.same ∙ unwound_after t (frames_of m) (slots_of m) (stack_of m) l.work _)
    (steps_after t m (record m { meter = q }) n c x l.work (at_rest t m b r1) l.spent h)

-- turns that were taken, and then what comes after them, by a machine that differs in its meter alone
pub from_rest : {A U V : Type 0} (t : Table) (m m1 n : Machine A) (b c : Block) (r0 r1 : Round A) (u : U) (x : Result V Stop) → m1 ≡ record m { meter = m1.meter } →
    Came m.meter.fuel (Ok u) m1.meter.fuel (between t m.levels b (env_of m) (local_of m) r0) (between t m.levels b (env_of m) (local_of m) r1) → Fits t m →
    (Fits t m1 → Steps t m1 x n c (at_rest t m1 b r1)) → Steps t m x n c (at_rest t m b r0)
from_rest t m m1 n b c r0 r1 u x same came fits h =
    then_came t m n m1.meter b c r0 r1 u x came (subst (λ y. Fits t y → Steps t y x n c (at_rest t y b r1)) same h fits)

-- a machine at the beginning of a turn
pub first_of_turn : {A : Type 0} (t : Table) (m : Machine A) (n : ℕ) (c : Block) (xs : Places) → block_of m.code.now ≡ c → m.levels ≡ n → m.base ≡ 0 → m.frames.items ≡ [] → m.stack.items ≡ [] → slots_of m ≡ xs →
    left t m ≡ after_cost 0 m.meter.depth (exec t n xs c [])
first_of_turn t m n c xs code levels base no_frames no_stack slots =
    ap (λ l. unwound t (reverse l) (slots_of m) (map tree_of m.stack.items) (after_cost 0 m.meter.depth (exec t m.levels (drop m.base (slots_of m)) (block_of m.code.now) (above (floor (reverse l)) (map tree_of m.stack.items))))) no_frames
    ∙ ap (λ l. after_cost 0 m.meter.depth (exec t m.levels (drop m.base (slots_of m)) (block_of m.code.now) (above 0 (map tree_of l)))) no_stack
    ∙ ap (λ b. after_cost 0 m.meter.depth (exec t m.levels (drop b (slots_of m)) (block_of m.code.now) [])) base
    ∙ ap (λ l. after_cost 0 m.meter.depth (exec t m.levels l (block_of m.code.now) [])) slots
    ∙ ap (λ k. after_cost 0 m.meter.depth (exec t k xs (block_of m.code.now) [])) levels
    ∙ ap (λ k. after_cost 0 m.meter.depth (exec t n xs k [])) code

-- a whole run from there is the turn
pub turn_ran : {R H G T : Type 0} (table : T → Table) (i : Interval R H G T) (place : ℕ) (meter : Meter) (m n : Machine Global) (r : Result (code.Value Global) Stop) →
    IsAtTurn m i place meter → HasBodies (table i.crew.now.tops.now) i.room.now.bodies.now → (Fits (table i.crew.now.tops.now) m → Ran m r n (left (table i.crew.now.tops.now) m)) →
    Ran m r n (after_cost 0 m.meter.depth (at_turn table i place))
turn_ran table i place meter m n r at bodies runs =
    let t = table i.crew.now.tops.now in
    subst (Ran m r n) (first_of_turn t m i.room.now.levels (body_block i.block.now) (places_of i.room.now.names.now ++ row place (map tree_of i.sources.now)) at.1 at.2 at.4 at.5 at.6 at.7)
    (runs (fits_first t m (subst (HasBodies t) (sym at.0) bodies) at.5 at.4))

-- turns that stopped, by a machine that differs in its meter alone
pub stopped_rest : {A : Type 0} (U : Type 0) (t : Table) (m m1 : Machine A) (b : Block) (e : Stop) (r0 r1 : Round A) → m1 ≡ record m { meter = m1.meter } →
    Came {U = U} m.meter.fuel (Err e) m1.meter.fuel (between t m.levels b (env_of m) (local_of m) r0) (between t m.levels b (env_of m) (local_of m) r1) →
    Stops (frames_of m1) m.meter.fuel e m1.meter.fuel (at_rest t m b r0)
stopped_rest U t m m1 b e r0 r1 same came =
    subst (λ n. Stops (frames_of n) m.meter.fuel e m1.meter.fuel (at_rest t m b r0)) (sym same)
    (came_stops U t (frames_of m) (slots_of m) (stack_of m) e m.meter.fuel m1.meter.fuel _ _ came)

pub add_ends : {U : Type 0} {P : Type 0} (f f' : ℕ) (u : Result U Stop) (o p : Out Value) → MatchResult u (λ x. P) (λ e. e ≡ Memory) → ((x : U) → P → Came {U = U} f (Ok x) f' o p) → Came {U = U} f u f' o p
add_ends f f' (Ok x) o p h k = k x h
add_ends {U} f f' (Err e) o p h k = subst (λ y. Came {U = U} f (Err y) f' o p) (sym h) tt

-- turns that were taken, and then more of them
pub came_then : {U V : Type 0} (f f1 f2 : ℕ) (u : U) (r : Result V Stop) (o p q : Out Value) → Came f (Ok u) f1 o p → Came f1 r f2 p q → Came f r f2 o q
came_then f f1 f2 u r o p q (inl e) k = came_stuck f r f2 o q e
came_then f f1 f2 u (Ok v) o p q (inr h) (inl e) = inl (h.same ∙ ap (after_cost h.work 0) e)
came_then f f1 f2 u (Ok v) o p q (inr h) (inr k) = inr (record {
  work = h.work + k.work;
  spent = omega (arith, h.spent, k.spent);
  same = h.same ∙ ap (after_cost h.work 0) k.same ∙ twice h.work k.work q;
  fits = tt;
})
came_then f f1 f2 u (Err (Fault k s)) o p q (inr h) (inl e) = inl (h.same ∙ ap (after_cost h.work 0) e)
came_then f f1 f2 u (Err (Fault k s)) o p q (inr h) (inr x) =
    inr (h.work + x.0, h.same ∙ ap (after_cost h.work 0) x.1, omega (arith, h.spent, x.2))
came_then f f1 f2 u (Err Over) o p q (inr h) (inl e) = inl (h.same ∙ ap (after_cost h.work 0) e)
came_then f f1 f2 u (Err Over) o p q (inr h) (inr x) =
    inr (h.work + x.0, x.1, h.same ∙ ap (after_cost h.work 0) x.2 ∙ twice h.work x.0 x.1, omega (arith, h.spent, x.3))
came_then f f1 f2 u (Err Memory) o p q (inr h) k = tt
came_then f f1 f2 u (Err Stuck) o p q (inr h) k = h.same ∙ ap (after_cost h.work 0) k
