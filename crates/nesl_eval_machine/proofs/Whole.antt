-- Whole runs.
use Rattle.std.proofs.Common.{◌≡◌, ℕ, refl, sym, ◌∙◌, ap, subst, arith, inr, ◌⊎◌, List, [], ◌∷◌, ◌++◌, map, drop, length, reverse, Result, Ok, Err}
use Rattle.std.proofs.lemmas.List.{reverse-append}
use Rattle.nesl_lex.specs.declared.token.Span.{Span}
use Rattle.nesl_values.specs.View.{tree_of}
use Rattle.nesl_values.specs.declared.value.Value as code
use Rattle.nesl_eval_meaning.specs.Names.{Value}
use Rattle.nesl_eval_meaning.specs.Out.{Out, value, fault, stuck, after_cost}
use Rattle.nesl_eval_code.specs.declared.code.Code.{Code}
use Rattle.nesl_eval_code.specs.Run.{Table, run}
use Rattle.nesl_eval_code.specs.Exec.{exec}
use Rattle.nesl_eval_code.specs.Flat.{block}
use Rattle.nesl_eval_code.proofs.Runs.{runs_as_code}
use Rattle.nesl_eval_ops.specs.View.{block_of}
use Rattle.nesl_eval_nodes.specs.declared.meter.Stop.{Stop}
use Rattle.nesl_eval_nodes.specs.declared.meter.Stop.TheVariants.{Fault, Over, Memory, Stuck}
use Rattle.nesl_eval_nodes.specs.Meets.{Meets, Is}
use Rattle.nesl_eval_machine.specs.declared.state.Frame.{Frame}
use Rattle.nesl_eval_machine.specs.declared.state.Machine.{Machine}
use Rattle.nesl_eval_machine.specs.State.{places_of, above, floor, unwound, Ordered, slots_of, left, HasBodies, Fits}
use Rattle.nesl_eval_machine.specs.Steps.{Goes, placed, placed_once, Stops, Ends, first_call, placed_stop}
use Rattle.nesl_eval_rounds.proofs.Laws.{after_none}

placed_below : {A : Type 0} (fs : List (Frame A)) (f : Frame A) (s : Span) → placed (fs ++ f ∷ []) s ≡ placed_once f.purpose (placed fs s)
placed_below [] f s = refl
placed_below (h ∷ fs) f s = placed_below fs f (placed_once h.purpose s)

pub placed_is : {A : Type 0} (xs : List (Frame A)) (s : Span) → placed (reverse xs) s ≡ first_call xs s
placed_is [] s = refl
placed_is (x ∷ xs) s =
    ap (λ l. placed l s) (reverse-append (x ∷ []) xs) ∙ placed_below (reverse xs) x s ∙ ap (placed_once x.purpose) (placed_is xs s)

pub stops_placed : {A : Type 0} (fs : List (Frame A)) (f : ℕ) (e : Stop) (f' : ℕ) (o : Out Value) → Stops fs f e f' o → Stops {A = A} [] f (placed_stop fs e) f' o
stops_placed fs f e f' stuck h = tt
stops_placed fs f (Fault k s) f' (value x w d) h = h
stops_placed fs f Over f' (value x w d) h = h
stops_placed fs f Memory f' (value x w d) h = tt
stops_placed fs f Stuck f' (value x w d) h = h
stops_placed fs f (Fault k s) f' (fault k' s' w) h = h
stops_placed fs f Over f' (fault k' s' w) h = h
stops_placed fs f Memory f' (fault k' s' w) h = tt
stops_placed fs f Stuck f' (fault k' s' w) h = h

pub begun : {A : Type 0} (t : Table) (m : Machine A) → Fits t m → (left t m ≡ stuck) ⊎ Goes t m.meter.fuel m (block_of m.code.now) (left t m)
begun t m fits = inr (record {
  work = 0;
  spent = omega arith;
  same = sym (after_none (left t m));
  fits = fits;
})

pub meets_end : {A : Type 0} (m n : Machine A) (r : Result (code.Value A) Stop) (o : Out Value) → m.meter.depth ≡ 0 → Ends m r n o → Meets Is m.meter r n.meter o
meets_end m n r stuck z h = tt
meets_end m n (Ok v) (value x w d) z h = (h.0, h.1, omega (arith, h.2, z))
meets_end m n (Ok v) (fault k s w) z h = h
meets_end m n (Err (Fault k s)) (value x w d) z h = h
meets_end m n (Err Over) (value x w d) z h = h
meets_end m n (Err Memory) (value x w d) z h = tt
meets_end m n (Err Stuck) (value x w d) z h = h
meets_end m n (Err (Fault k s)) (fault k' s' w) z h = h
meets_end m n (Err Over) (fault k' s' w) z h = h
meets_end m n (Err Memory) (fault k' s' w) z h = tt
meets_end m n (Err Stuck) (fault k' s' w) z h = h

-- a machine at the beginning of an expression
pub at_first : {A : Type 0} (t : Table) (m : Machine A) (c : Code) → m.frames.items ≡ [] → m.stack.items ≡ [] → m.slots.items ≡ [] → m.base ≡ 0 → m.meter.depth ≡ 0 → block_of m.code.now ≡ block [] c →
    left t m ≡ run m.levels t [] c
at_first t m c no_frames no_stack no_slots base depth code =
    ap (λ l. unwound t (reverse l) (slots_of m) (map tree_of m.stack.items) (after_cost 0 m.meter.depth (exec t m.levels (drop m.base (slots_of m)) (block_of m.code.now) (above (floor (reverse l)) (map tree_of m.stack.items))))) no_frames
    ∙ ap (λ l. after_cost 0 m.meter.depth (exec t m.levels (drop m.base (slots_of m)) (block_of m.code.now) (above 0 (map tree_of l)))) no_stack
    ∙ ap (λ d. after_cost 0 d (exec t m.levels (drop m.base (slots_of m)) (block_of m.code.now) [])) depth
    ∙ after_none (exec t m.levels (drop m.base (slots_of m)) (block_of m.code.now) [])
    ∙ ap (λ b. exec t m.levels (drop b (slots_of m)) (block_of m.code.now) []) base
    ∙ ap (λ l. exec t m.levels (places_of l) (block_of m.code.now) []) no_slots
    ∙ ap (λ b. exec t m.levels [] b []) code
    ∙ runs_as_code t m.levels [] c

pub fits_first : {A : Type 0} (t : Table) (m : Machine A) → HasBodies t m.bodies.now → m.frames.items ≡ [] → m.base ≡ 0 → Fits t m
fits_first t m bodies no_frames base =
    (bodies, subst (λ l. Ordered (reverse l) (length m.slots.items) (length m.stack.items)) (sym no_frames) tt, omega (arith, base))
