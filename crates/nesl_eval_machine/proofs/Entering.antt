-- Blocks that are entered.
use Rattle.std.proofs.Common.{◌≡◌, ℕ, ◌+◌, ◌≤◌, sym, ◌∙◌, ap, subst, arith, List, [], ◌∷◌, ◌++◌, map, length, take, drop, reverse, Some, Vec}
use Rattle.std.proofs.lemmas.List.{reverse-append, length-map, take-map}
use Rattle.std.proofs.Math.Seq.{take-append_seam, take-length}
use Rattle.std.proofs.Math.ListN.{length-append}
use Rattle.nesl_values.specs.View.{tree_of}
use Rattle.nesl_values.specs.declared.value.Value as code
use Rattle.nesl_eval_meaning.specs.Names.{Value}
use Rattle.nesl_eval_meaning.specs.Out.{Out, after_cost}
use Rattle.nesl_eval_code.specs.Run.{Table}
use Rattle.nesl_eval_code.specs.Block.{Block}
use Rattle.nesl_eval_code.specs.Exec.{Places, exec}
use Rattle.nesl_eval_nodes.specs.declared.meter.Meter.{Meter}
use Rattle.nesl_eval_machine.specs.declared.state.Frame.{Frame}
use Rattle.nesl_eval_machine.specs.declared.state.Machine.{Machine}
use Rattle.nesl_eval_machine.specs.State.{places_of, above, floor, resumed, unwound, Ordered, frames_of, slots_of, stack_of, local_of, left_at, Fits}
use Rattle.nesl_eval_machine.specs.Steps.{Goes}
use Rattle.nesl_eval_rounds.proofs.Laws.{after_none}
use Rattle.nesl_eval_machine.proofs.Stepping.{all_dropped}

pub places_long : {A : Type 0} (xs : List (code.Value A)) → length (places_of xs) ≡ length xs
places_long xs = length-map (map tree_of xs) Some ∙ length-map xs tree_of

pub places_cut : {A : Type 0} (k : ℕ) (xs : List (code.Value A)) → take k (places_of xs) ≡ places_of (take k xs)
places_cut k xs = take-map Some k (map tree_of xs) ∙ ap (map Some) (take-map tree_of k xs)

-- a frame waits for what its block evaluates to
waiting : {A : Type 0} (t : Table) (fs : List (Frame A)) (f : Frame A) (sl sl' : Places) (st : List Value) (o : Out Value) → take f.len sl' ≡ sl → take f.height st ≡ st →
    unwound t (f ∷ fs) sl' st o ≡ unwound t fs sl st (resumed t f (drop f.base sl) (above (floor fs) st) o)
waiting t fs f sl sl' st o p q =
    ap (λ l. unwound t fs l (take f.height st) (resumed t f (drop f.base l) (above (floor fs) (take f.height st)) o)) p
    ∙ ap (λ s. unwound t fs sl s (resumed t f (drop f.base sl) (above (floor fs) s) o)) q

-- a block is entered, and a frame waits for it
pub entered_block : {A : Type 0} (t : Table) (m : Machine A) (f : Frame A) (frames : Vec (Frame A) A) (b : Block) (slots : Vec (code.Value A) A) (more : Places) (base levels : ℕ) (r : Meter) (P : Out Value) →
    frames.items ≡ m.frames.items ++ f ∷ [] → f.len ≡ length m.slots.items → f.height ≡ length m.stack.items → f.base ≤ length m.slots.items →
    places_of slots.items ≡ slots_of m ++ more → base ≤ length slots.items → m.meter.fuel ≡ r.fuel → Fits t m →
    P ≡ resumed t f (drop f.base (slots_of m)) (local_of m) (after_cost 0 r.depth (exec t levels (drop base (places_of slots.items)) b [])) →
    Goes t m.meter.fuel (record m { slots = slots; frames = frames; base = base; levels = levels; meter = r }) b (unwound t (frames_of m) (slots_of m) (stack_of m) P)
entered_block {A} t m f frames b slots more base levels r P is len height at grown within fuel fits same =
    let n : Machine A = record m { slots = slots; frames = frames; base = base; levels = levels; meter = r } in
    let fs = frames_of m in
    let sl' : Places = places_of slots.items in
    let st = stack_of m in
    let tops : frames_of n ≡ f ∷ fs = ap reverse is ∙ reverse-append m.frames.items (f ∷ []) in
    let long : length st ≡ f.height = length-map m.stack.items tree_of ∙ sym height in
    let slots_long : length (slots_of m) ≡ f.len = places_long m.slots.items ∙ sym len in
    let longer : length slots.items ≡ length m.slots.items + length more = sym (places_long slots.items) ∙ ap length grown ∙ length-append (slots_of m) more ∙ ap (λ k. k + length more) (places_long m.slots.items) in
    let cut : take f.len sl' ≡ slots_of m = ap (take f.len) grown ∙ ap (λ k. take k (slots_of m ++ more)) (sym slots_long) ∙ take-append_seam (slots_of m) more in
    let whole : take f.height st ≡ st = ap (λ k. take k st) (sym long) ∙ take-length st in
    let empty : local_of n ≡ [] = ap (λ l. above (floor l) st) tops ∙ all_dropped f.height st (omega (arith, long)) in
    let E : List Value → Out Value = λ l. after_cost 0 r.depth (exec t levels (drop base sl') b l) in (record {
      work = 0;
      spent = omega (arith, fuel);
      same =
          ap (unwound t fs (slots_of m) st) same
          ∙ sym (waiting t fs f (slots_of m) sl' st (E []) cut whole)
          ∙ ap (λ l. unwound t l sl' st (E [])) (sym tops)
          ∙ ap (λ l. unwound t (frames_of n) sl' st (E l)) (sym empty)
          ∙ sym (after_none (left_at t n b));
      fits = (
        fits.0,
        subst (λ l. Ordered l (length slots.items) (length m.stack.items)) (sym tops) (
          omega (arith, len, longer),
          omega (arith, height),
          omega (arith, at, len),
          subst (λ k. Ordered fs k f.height) (sym len) (subst (Ordered fs (length m.slots.items)) (sym height) fits.1),
        ),
        within,
      );
    })
