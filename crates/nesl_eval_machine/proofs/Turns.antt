-- How an apply-to-each begins, and how its turns end.
use Rattle.std.proofs.Common.{◌≡◌, ℕ, ◌≤◌, refl, sym, ◌∙◌, ap, subst, arith, inl, inr, ◌⊎◌, List, [], ◌∷◌, ◌++◌, map, length, take, drop, Result, Ok, Err, Option, Some, None, Vec, Bor}
use Rattle.std.specs.Prelude.{MatchResult}
use Rattle.std.proofs.lemmas.List.{length-map}
use Rattle.nesl_lex.specs.declared.token.Span.{Span}
use Rattle.nesl_values.specs.View.{tree_of}
use Rattle.nesl_values.specs.declared.value.Value as code
use Rattle.nesl_values_builder.specs.Elements.{elements_of}
use Rattle.nesl_eval_meaning.specs.Names.{Value}
use Rattle.nesl_eval_meaning.specs.Out.{Out, value, fault, stuck, after_cost, and_then, given}
use Rattle.nesl_eval_meaning.specs.Outcome.{common_places, lengths}
use Rattle.nesl_eval_code.specs.Run.{Table}
use Rattle.nesl_eval_code.specs.Block.{Block, finish}
use Rattle.nesl_eval_code.specs.Exec.{Places, exec, at_places, kept_of, values_of}
use Rattle.nesl_eval_code.proofs.Outs.{then_assoc}
use Rattle.nesl_eval_ops.specs.declared.ops.Body.{Body}
use Rattle.nesl_eval_ops.specs.View.{block_of, body_block}
use Rattle.nesl_eval_nodes.specs.declared.meter.Meter.{Meter}
use Rattle.nesl_eval_nodes.specs.declared.meter.Stop.{Stop}
use Rattle.nesl_eval_nodes.specs.Meets.{Meets}
use Rattle.nesl_eval_rounds.specs.declared.state.Round.{Round}
use Rattle.nesl_eval_machine.specs.declared.state.Purpose.TheVariants.{Turn}
use Rattle.nesl_eval_machine.specs.declared.state.Frame.{Frame}
use Rattle.nesl_eval_machine.specs.declared.state.Machine.{Machine}
use Rattle.nesl_eval_rounds.specs.Rounds.{chosen_places, at_place, gathered_as, all_values, turn_of, between, in_turn}
use Rattle.nesl_eval_machine.specs.State.{places_of, above, floor, in_rounds, resumed_as, unwound, Ordered, frames_of, slots_of, stack_of, env_of, local_of, left_with, left_at, Fits}
use Rattle.nesl_eval_nodes.specs.declared.meter.Stop.TheVariants.{Fault, Over, Memory, Stuck}
use Rattle.nesl_eval_rounds.specs.Leads.{Gave}
use Rattle.nesl_eval_machine.specs.Steps.{Goes, Stops, Rests}
use Rattle.nesl_eval_rounds.proofs.Laws.{after_none, gathering_first}
use Rattle.nesl_eval_machine.proofs.Unwinding.{unwound_stuck, unwound_after, floor_within, ordered_more}
use Rattle.nesl_eval_machine.proofs.Stepping.{mapped, one_longer, over_any, memory_any, off}
use Rattle.nesl_eval_machine.proofs.Ending.{block_ended, pushed_local}
use Rattle.nesl_eval_rounds.proofs.Gathering.{after_places, after_values, then_result}

-- the places come first, and the rounds after them
pub places_first : (s : Span) (vs : List Value) (f : List ℕ → Out Value) (k : Value → Out Value) →
    and_then (at_places s vs f) k ≡ and_then (given (lengths vs) (common_places s)) (λ is. and_then (f is) k)
places_first s vs f k = by_lengths (lengths vs)
  where
    by_lengths : (o : Option (List ℕ)) →
        and_then (given o (λ ns. and_then (common_places s ns) f)) k ≡ and_then (given o (common_places s)) (λ is. and_then (f is) k)
    by_lengths (Some ns) = then_assoc (common_places s ns) f k
    by_lengths None = refl

-- what is found costs nothing
pub found_first : {A R X : Type 0} (T : R → X → Type 0) (t : Table) (m : Machine A) (v : R) (p : Out X) (k : X → Out Value) → Meets T m.meter (Ok v) m.meter p →
    (left_with t m (and_then p k) ≡ stuck) ⊎ ((x : X) × T v x × (left_with t m (and_then p k) ≡ left_with t m (k x)))
found_first T t m v stuck k h = inl (unwound_stuck t (frames_of m) (slots_of m) (stack_of m))
found_first T t m v (fault f s w) k h = absurd h
found_first T t m v (value x w d) k h =
    let no_work : w ≡ 0 = omega (arith, h.1) in
    let no_depth : d ≡ 0 = omega (arith, h.2) in
    inr (x, h.0, ap (λ j. left_with t m (after_cost j d (k x))) no_work ∙ ap (λ j. left_with t m (after_cost 0 j (k x))) no_depth ∙ ap (left_with t m) (after_none (k x)))

-- the first round, between no turns
pub first_between : {A : Type 0} (t : Table) (n : ℕ) (b : Block) (env : Places) (st : List Value) (r : Round A) (vs : List Value) (c : Block) (g : Option (Bor Body)) (is : List ℕ) (D : ℕ) →
    map tree_of r.sources.items ≡ vs → body_block r.block.now ≡ c → r.body ≡ g → chosen_places r.chosen ≡ is → r.turns ≡ 0 → r.start ≡ D → r.most ≡ 0 → r.kept.items ≡ [] → elements_of r.values ≡ [] →
    after_cost 0 D (and_then (in_rounds t n env vs c g is) (λ v. exec t n env b (v ∷ st))) ≡ between t n b env st r
first_between t n b env st r vs c g is D sources block body chosen turns start most kept made =
    by_body g
    ∙ ap (λ x. gathered_as t n b env st x D 0 g [] [] (kept_of (at_place t n env x c) is) (all_values (at_place t n env x c) is)) (sym sources)
    ∙ ap (λ x. gathered_as t n b env st (map tree_of r.sources.items) D 0 g [] [] (kept_of (at_place t n env (map tree_of r.sources.items) x) is) (all_values (at_place t n env (map tree_of r.sources.items) x) is)) (sym block)
    ∙ ap (λ x. gathered_as t n b env st (map tree_of r.sources.items) D 0 g [] [] (kept_of (turn_of t n env r) (drop 0 x)) (all_values (turn_of t n env r) (drop 0 x))) (sym chosen)
    ∙ ap (λ x. gathered_as t n b env st (map tree_of r.sources.items) D 0 g [] [] (kept_of (turn_of t n env r) (drop x (chosen_places r.chosen))) (all_values (turn_of t n env r) (drop x (chosen_places r.chosen)))) (sym turns)
    ∙ ap (λ x. gathered_as t n b env st (map tree_of r.sources.items) x 0 g [] [] (kept_of (turn_of t n env r) (drop r.turns (chosen_places r.chosen))) (all_values (turn_of t n env r) (drop r.turns (chosen_places r.chosen)))) (sym start)
    ∙ ap (λ x. gathered_as t n b env st (map tree_of r.sources.items) r.start x g [] [] (kept_of (turn_of t n env r) (drop r.turns (chosen_places r.chosen))) (all_values (turn_of t n env r) (drop r.turns (chosen_places r.chosen)))) (sym most)
    ∙ ap (λ x. gathered_as t n b env st (map tree_of r.sources.items) r.start r.most x [] [] (kept_of (turn_of t n env r) (drop r.turns (chosen_places r.chosen))) (all_values (turn_of t n env r) (drop r.turns (chosen_places r.chosen)))) (sym body)
    ∙ ap (λ x. gathered_as t n b env st (map tree_of r.sources.items) r.start r.most r.body x [] (kept_of (turn_of t n env r) (drop r.turns (chosen_places r.chosen))) (all_values (turn_of t n env r) (drop r.turns (chosen_places r.chosen)))) (sym kept)
    ∙ ap (λ x. gathered_as t n b env st (map tree_of r.sources.items) r.start r.most r.body r.kept.items x (kept_of (turn_of t n env r) (drop r.turns (chosen_places r.chosen))) (all_values (turn_of t n env r) (drop r.turns (chosen_places r.chosen)))) (sym made)
  where
    by_body : (g : Option (Bor Body)) →
        after_cost 0 D (and_then (in_rounds t n env vs c g is) (λ v. exec t n env b (v ∷ st)))
        ≡ gathered_as t n b env st vs D 0 g [] [] (kept_of (at_place t n env vs c) is) (all_values (at_place t n env vs c) is)
    by_body (Some d) =
        ap (after_cost 0 D) (then_assoc (kept_of (at_place t n env vs c) is) (values_of (at_place t n env vs (body_block d.now))) (λ v. exec t n env b (v ∷ st)))
        ∙ sym (gathering_first D (kept_of (at_place t n env vs c) is) (after_places t n b env st vs d))
    by_body None =
        ap (after_cost 0 D) (then_result t n b env st (all_values (at_place t n env vs c) is) (λ v. exec t n env b (v ∷ st)))
        ∙ sym (gathering_first D (all_values (at_place t n env vs c) is) (after_values t n b env st))

-- the end of a turn whose value is at hand
pub record Turned {A : Type 0} (t : Table) (m : Machine A) (f : Frame A) (r : Round A) (sl : List (code.Value A)) (v : code.Value A) (o : Out Value) : Type 0 where
  pub left : o ≡ unwound t (frames_of m) (places_of sl) (stack_of m)
      (in_turn t f.levels (block_of f.next.now) (drop f.base (places_of sl)) (above (floor (frames_of m)) (stack_of m)) r (value (tree_of v) 0 m.meter.depth))
  pub ordered : Ordered (frames_of m) (length sl) (length m.stack.items)
  pub base : f.base ≤ length sl

pub turn_ended : {A : Type 0} (t : Table) (m : Machine A) (f : Frame A) (before : Vec (Frame A) A) (turn : _) (sl : List (code.Value A)) (v : code.Value A) →
    before.items ≡ m.frames.items ++ f ∷ [] → Fits t (record m { frames = before }) → f.purpose ≡ Turn turn → sl ≡ take f.len m.slots.items →
    let m0 : Machine A = record m { frames = before } in
    let o = left_with t m0 (exec t m.levels (env_of m) finish (tree_of v ∷ local_of m0)) in
    (o ≡ stuck) ⊎ Turned t m f turn.value sl v o
turn_ended t m f before turn sl v is fits purpose cut =
    elim (block_ended t m f before sl v is fits cut) [
      | inl e ↦ inl e
      | inr e ↦ inr (record {
        left =
            e.left
            ∙ ap (λ k. unwound t (frames_of m) (places_of sl) (stack_of m)
            (resumed_as t f.levels (block_of f.next.now) k (drop f.base (places_of sl)) (above (floor (frames_of m)) (stack_of m)) (value (tree_of v) 0 m.meter.depth))) purpose;
        ordered = e.ordered;
        base = e.base;
      })
    ]

-- the value of a turn that was on the stack
pub rests_popped : {A U : Type 0} (t : Table) (m n : Machine A) (s : Vec (code.Value A) A) (v : code.Value A) (u : Result U Stop) (b : Block) (r : Round A) →
    m.stack.items ≡ s.items ++ v ∷ [] → Fits t m →
    let m1 : Machine A = record m { stack = s } in
    (Fits t m1 → Rests t m.meter.fuel u n b r (left_with t m1 (exec t m.levels (env_of m) finish (tree_of v ∷ local_of m1)))) →
    Rests t m.meter.fuel u n b r (left_at t m finish)
rests_popped {A} {U} t m n s v u b r is fits next =
    elim (off t m s v (exec t m.levels (env_of m) finish) is refl fits) [
      | inl e ↦ stuck_rests u (left_at t m finish) e
      | inr e ↦ subst (Rests t m.meter.fuel u n b r) (sym e.0) (next e.1)
    ]
  where
    stuck_rests : (u : Result U Stop) (o : Out Value) → o ≡ stuck → Rests t m.meter.fuel u n b r o
    stuck_rests (Ok x) o e = inl e
    stuck_rests (Err x) o e = subst (Stops (frames_of n) m.meter.fuel x n.meter.fuel) (sym e) tt

-- a value on the stack of a machine
pub put_on : {A : Type 0} (t : Table) (m : Machine A) (b : Block) (stack : Vec (code.Value A) A) (r : Meter) (v : code.Value A) (o : Out Value) →
    stack.items ≡ m.stack.items ++ v ∷ [] → m.meter.fuel ≡ r.fuel → Fits t m →
    o ≡ after_cost 0 r.depth (exec t m.levels (env_of m) b (tree_of v ∷ local_of m)) →
    Goes t m.meter.fuel (record m { stack = stack; meter = r }) b (unwound t (frames_of m) (slots_of m) (stack_of m) o)
put_on {A} t m b stack r v o more fuel fits same =
    let n : Machine A = record m { stack = stack; meter = r } in
    let fs = frames_of m in
    let longer = one_longer m.stack.items stack.items v more in
    let within : floor fs ≤ length m.stack.items = floor_within fs (length m.slots.items) (length m.stack.items) fits.1 in
    let within_st : floor fs ≤ length (stack_of m) = omega (arith, length-map m.stack.items tree_of) in
    (record {
      work = 0;
      spent = omega arith;
      same =
          ap (unwound t fs (slots_of m) (stack_of m)) same
          ∙ pushed_local t fs (slots_of m) (map tree_of stack.items) (stack_of m) (tree_of v) (λ l. after_cost 0 r.depth (exec t m.levels (env_of m) b l)) (mapped m.stack.items stack.items v more) within_st
          ∙ sym (after_none (left_at t n b));
      fits = (fits.0, ordered_more fs (length m.slots.items) (length m.stack.items) _ _ fits.1 (omega arith) (omega arith), fits.2);
    })

-- a turn that does not end
pub gave_stops : {A : Type 0} (U : Type 0) (t : Table) (fs : List (Frame A)) (sl : Places) (st : List Value) (e : Stop) (f f' : ℕ) (o p : Out Value) →
    Gave {U = U} f (Err e) f' o p → Stops fs f e f' (unwound t fs sl st o)
gave_stops U t fs sl st (Fault k s) f f' o p h = absurd h
gave_stops U t fs sl st Over f f' o p h =
    subst (Stops fs f Over f') (sym (ap (unwound t fs sl st) h.2 ∙ unwound_after t fs sl st h.0 h.1)) (over_any fs f f' h.0 (unwound t fs sl st h.1) h.3)
gave_stops U t fs sl st Memory f f' o p h = memory_any fs f f' (unwound t fs sl st o)
gave_stops U t fs sl st Stuck f f' o p h = subst (Stops fs f Stuck f') (sym (ap (unwound t fs sl st) h ∙ unwound_stuck t fs sl st)) tt

-- a round in a box
pub boxed_round : {A B : Type 0} (m : Machine A) (value_of : B → Round A) (r : Round A) (u : Result B Stop) (o : Out Value) (f : Round A → Out Value) → (o ≡ stuck) ⊎ (o ≡ f r) →
    MatchResult u (λ b. value_of b ≡ r) (λ e. e ≡ Memory) →
    MatchResult u (λ b. (o ≡ stuck) ⊎ (o ≡ f (value_of b))) (λ e. Stops (frames_of m) m.meter.fuel e m.meter.fuel o)
boxed_round m value_of r (Ok b) o f h e = subst (λ x. (o ≡ stuck) ⊎ (o ≡ f x)) (sym e) h
boxed_round m value_of r (Err x) o f h e = subst (λ y. Stops (frames_of m) m.meter.fuel y m.meter.fuel o) (sym e) (memory_any (frames_of m) m.meter.fuel m.meter.fuel o)
