-- Blocks that end.
use Rattle.std.proofs.Common.{◌≡◌, ℕ, ◌≤◌, refl, sym, ◌∙◌, ap, subst, arith, inl, inr, ◌⊎◌, List, [], ◌∷◌, ◌++◌, length, take, drop, reverse, Vec}
use Rattle.std.proofs.lemmas.List.{take-append-le, take-append-drop, append-nil, reverse-append, reverse-reverse, length-take-le}
use Rattle.nesl_values.specs.View.{tree_of}
use Rattle.nesl_values.specs.declared.value.Value as code
use Rattle.nesl_eval_meaning.specs.Names.{Value}
use Rattle.nesl_eval_meaning.specs.Out.{Out, value, stuck, after_cost}
use Rattle.nesl_eval_code.specs.Run.{Table}
use Rattle.nesl_eval_code.specs.Block.{finish}
use Rattle.nesl_eval_code.specs.Exec.{Places, exec}
use Rattle.nesl_eval_machine.specs.declared.state.Frame.{Frame}
use Rattle.nesl_eval_machine.specs.declared.state.Machine.{Machine}
use Rattle.nesl_eval_machine.specs.State.{places_of, above, floor, resumed, unwound, Ordered, frames_of, slots_of, stack_of, env_of, local_of, left_with, Fits}
use Rattle.nesl_eval_machine.proofs.Unwinding.{unwound_stuck, unwound_stack, above_more, ordered_more}
use Rattle.nesl_eval_machine.proofs.Entering.{places_cut}

pub value_is : {v : Value} {w w' d d' : ℕ} → w ≡ w' → d ≡ d' → value v w d ≡ value v w' d'
value_is p q = cc

-- a block that ended with the value at hand, which nothing is before, and these slots are left
pub record Ended {A : Type 0} (t : Table) (m : Machine A) (f : Frame A) (sl : List (code.Value A)) (v : code.Value A) (o : Out Value) : Type 0 where
  pub left : o ≡ unwound t (frames_of m) (places_of sl) (stack_of m)
      (resumed t f (drop f.base (places_of sl)) (above (floor (frames_of m)) (stack_of m)) (value (tree_of v) 0 m.meter.depth))
  pub ordered : Ordered (frames_of m) (length sl) (length m.stack.items)
  pub base : f.base ≤ length sl

-- or it is stuck
pub block_ended : {A : Type 0} (t : Table) (m : Machine A) (f : Frame A) (before : Vec (Frame A) A) (sl : List (code.Value A)) (v : code.Value A) →
    before.items ≡ m.frames.items ++ f ∷ [] → Fits t (record m { frames = before }) → sl ≡ take f.len m.slots.items →
    let m0 : Machine A = record m { frames = before } in
    let o = left_with t m0 (exec t m.levels (env_of m) finish (tree_of v ∷ local_of m0)) in
    (o ≡ stuck) ⊎ Ended t m f sl v o
block_ended {A} t m f before sl v is fits cut = by_local (local_of (record m { frames = before })) refl
  where
    m0 : Machine A
    m0 = record m { frames = before }

    o : List Value → Out Value
    o = λ l. left_with t m0 (exec t m.levels (env_of m) finish (tree_of v ∷ l))

    by_local : (vs : List Value) → local_of m0 ≡ vs → (o (local_of m0) ≡ stuck) ⊎ Ended t m f sl v (o (local_of m0))
    by_local (u ∷ vs) e = inl (ap o e ∙ unwound_stuck t (reverse before.items) (slots_of m) (stack_of m))
    by_local [] e =
        let fs = frames_of m in
        let st = stack_of m in
        let D = m.meter.depth in
        let tops : frames_of m0 ≡ f ∷ fs = ap reverse is ∙ reverse-append m.frames.items (f ∷ []) in
        let ordered : Ordered (f ∷ fs) (length m.slots.items) (length m.stack.items) = subst (λ l. Ordered l (length m.slots.items) (length m.stack.items)) tops fits.1 in
        let none : drop f.height st ≡ [] = sym (reverse-reverse (drop f.height st)) ∙ ap reverse (ap (λ l. above (floor l) st) (sym tops) ∙ e) in
        let whole : take f.height st ≡ st = sym (append-nil (take f.height st)) ∙ ap (λ l. take f.height st ++ l) (sym none) ∙ take-append-drop f.height st in
        let slots_are : take f.len (slots_of m) ≡ places_of sl = places_cut f.len m.slots.items ∙ sym (ap places_of cut) in
        let long : length sl ≡ f.len = ap length cut ∙ length-take-le f.len m.slots.items ordered.0 in
        let alone : after_cost 0 D (value (tree_of v) 0 0) ≡ value (tree_of v) 0 D = value_is (omega arith) (omega arith) in
        let W : Places → List Value → Out Value = λ l s. unwound t fs l s (resumed t f (drop f.base l) (above (floor fs) s) (value (tree_of v) 0 D)) in
        inr (record {
          left =
              ap o e
              ∙ ap (unwound t (frames_of m0) (slots_of m) st) alone
              ∙ ap (λ l. unwound t l (slots_of m) st (value (tree_of v) 0 D)) tops
              ∙ ap (W (take f.len (slots_of m))) whole
              ∙ ap (λ l. W l st) slots_are;
          ordered = ordered_more fs f.len f.height _ _ ordered.3 (omega (arith, long)) ordered.1;
          base = omega (arith, long, ordered.2);
        })

-- a value on the stack in the place of one on the local part alone
pub pushed_local : {A : Type 0} (t : Table) (fs : List (Frame A)) (sl : Places) (st st1 : List Value) (x : Value) (e : List Value → Out Value) → st ≡ st1 ++ x ∷ [] → floor fs ≤ length st1 →
    unwound t fs sl st1 (e (x ∷ above (floor fs) st1)) ≡ unwound t fs sl st (e (above (floor fs) st))
pushed_local t fs sl st st1 x e split within =
    let inner : above (floor fs) st ≡ x ∷ above (floor fs) st1 = ap (above (floor fs)) split ∙ above_more (floor fs) st1 x within in
    let below : take (floor fs) st ≡ take (floor fs) st1 = ap (take (floor fs)) split ∙ take-append-le (floor fs) st1 (x ∷ []) within in
    ap (λ l. unwound t fs sl st1 (e l)) (sym inner) ∙ sym (unwound_stack t fs sl st st1 (e (above (floor fs) st)) below)
