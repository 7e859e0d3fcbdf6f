-- What frames make of outcomes.
use Rattle.std.proofs.Common.{◌≡◌, ℕ, suc, ◌≤◌, refl, ◌∙◌, ap, arith, List, [], ◌∷◌, ◌++◌, map, length, take, drop, reverse, Option, Some, None, Bor}
use Rattle.std.proofs.lemmas.List.{drop-append-le, reverse-append}
use Rattle.nesl_lex.specs.declared.token.Span.{Span}
use Rattle.nesl_scalars.specs.declared.trap.Trap.{Trap}
use Rattle.nesl_values.specs.Tree as values
use Rattle.nesl_values.specs.View.{tree_of}
use Rattle.nesl_values_builder.specs.Elements.{elements_of}
use Rattle.nesl_eval_meaning.specs.Names.{Value}
use Rattle.nesl_eval_meaning.specs.Out.{Out, fault, stuck, after_cost, and_then, at_call, beside}
use Rattle.nesl_eval_meaning.specs.Outcome.{place_if_true, body_value}
use Rattle.nesl_eval_code.specs.Run.{Table}
use Rattle.nesl_eval_code.specs.Block.{Block}
use Rattle.nesl_eval_code.specs.Exec.{Places, exec, kept_of, values_of}
use Rattle.nesl_eval_ops.specs.View.{block_of, body_block}
use Rattle.nesl_eval_ops.specs.declared.ops.Body.{Body}
use Rattle.nesl_eval_rounds.specs.declared.state.Round.{Round}
use Rattle.nesl_eval_machine.specs.declared.state.Purpose.{Purpose}
use Rattle.nesl_eval_machine.specs.declared.state.Purpose.TheVariants.{Push, Return, Turn}
use Rattle.nesl_eval_machine.specs.declared.state.Frame.{Frame}
use Rattle.nesl_eval_rounds.specs.Rounds.{at_place, gathering, gathered_as, all_values, turn_of, places_left}
use Rattle.nesl_eval_machine.specs.State.{above, floor, resumed_as, resumed, unwound, Ordered}
use Rattle.nesl_eval_machine.specs.Steps.{placed_once, placed, slots_below}
use Rattle.nesl_eval_rounds.proofs.Laws.{then_after, at_call_after, gathering_after, fault_twice}

module _ (t : Table) (n : ℕ) (b : Block) (env : Places) (st vs : List Value) (start most i : ℕ) (kept : List ℕ) (made : List Value) where
  turn_stuck : (g : Option (Bor Body)) (ps : Out (List ℕ)) (us : Out (List Value)) →
      gathered_as t n b env st vs start most g kept made (beside (and_then stuck (place_if_true i)) ps) (beside (and_then stuck body_value) us) ≡ stuck
  turn_stuck (Some c) ps us = refl
  turn_stuck None ps us = refl

  turn_fault : (g : Option (Bor Body)) (ps : Out (List ℕ)) (us : Out (List Value)) (k : Trap) (s : Span) (w : ℕ) →
      gathered_as t n b env st vs start most g kept made (beside (and_then (fault k s w) (place_if_true i)) ps) (beside (and_then (fault k s w) body_value) us) ≡ fault k s w
  turn_fault (Some c) ps us k s w = fault_twice Value k s w
  turn_fault None ps us k s w = fault_twice Value k s w

  turn_after : (g : Option (Bor Body)) (ps : Out (List ℕ)) (us : Out (List Value)) (w : ℕ) (o : Out Value) →
      gathered_as t n b env st vs start most g kept made (beside (and_then (after_cost w 0 o) (place_if_true i)) ps) (beside (and_then (after_cost w 0 o) body_value) us)
      ≡ after_cost w 0 (gathered_as t n b env st vs start most g kept made (beside (and_then o (place_if_true i)) ps) (beside (and_then o body_value) us))
  turn_after (Some c) ps us w o =
      let k : List ℕ → Out Value = λ ks. and_then (values_of (at_place t n env vs (body_block c.now)) ks) (λ v. exec t n env b (v ∷ st)) in
      ap (λ p. gathering start most kept (beside p ps) k) (then_after w 0 o (place_if_true i))
      ∙ gathering_after start most kept w (and_then o (place_if_true i)) ps k
  turn_after None ps us w o =
      let k : List Value → Out Value = λ xs. exec t n env b (values.sequence xs ∷ st) in
      ap (λ p. gathering start most made (beside p us) k) (then_after w 0 o body_value)
      ∙ gathering_after start most made w (and_then o body_value) us k

-- the places and the values of the turns after the one that is on
abbrev later_places : {A : Type 0} → Table → ℕ → Places → Round A → Out (List ℕ)
later_places t n env r = kept_of (turn_of t n env r) (places_left r (suc r.turns))

abbrev later_values : {A : Type 0} → Table → ℕ → Places → Round A → Out (List Value)
later_values t n env r = all_values (turn_of t n env r) (places_left r (suc r.turns))

module _ {A : Type 0} (t : Table) (n : ℕ) (b : Block) (env : Places) (st : List Value) where
  resumed_stuck : (k : Purpose A) → resumed_as t n b k env st stuck ≡ stuck
  resumed_stuck Push = refl
  resumed_stuck (Return s) = refl
  resumed_stuck (Turn r) =
      turn_stuck t n b env st (map tree_of r.value.sources.items) r.value.start r.value.most r.value.place r.value.kept.items (elements_of r.value.values)
      r.value.body (later_places t n env r.value) (later_values t n env r.value)

  resumed_fault : (f : Purpose A) (k : Trap) (s : Span) (w : ℕ) → resumed_as t n b f env st (fault k s w) ≡ fault k (placed_once f s) w
  resumed_fault Push k s w = refl
  resumed_fault (Return s') k s w = refl
  resumed_fault (Turn r) k s w =
      turn_fault t n b env st (map tree_of r.value.sources.items) r.value.start r.value.most r.value.place r.value.kept.items (elements_of r.value.values)
      r.value.body (later_places t n env r.value) (later_values t n env r.value) k s w

  resumed_after : (k : Purpose A) (w : ℕ) (o : Out Value) → resumed_as t n b k env st (after_cost w 0 o) ≡ after_cost w 0 (resumed_as t n b k env st o)
  resumed_after Push w o = then_after w 0 o (λ v. exec t n env b (v ∷ st))
  resumed_after (Return s) w o =
      ap (λ p. and_then p (λ v. exec t n env b (v ∷ st))) (at_call_after s w 0 o) ∙ then_after w 0 (at_call s o) (λ v. exec t n env b (v ∷ st))
  resumed_after (Turn r) w o =
      turn_after t n b env st (map tree_of r.value.sources.items) r.value.start r.value.most r.value.place r.value.kept.items (elements_of r.value.values)
      r.value.body (later_places t n env r.value) (later_values t n env r.value) w o

pub unwound_stuck : {A : Type 0} (t : Table) (fs : List (Frame A)) (sl : Places) (st : List Value) → unwound t fs sl st stuck ≡ stuck
unwound_stuck t [] sl st = refl
unwound_stuck t (f ∷ fs) sl st =
    ap (unwound t fs (take f.len sl) (take f.height st)) (resumed_stuck t f.levels (block_of f.next.now) _ _ f.purpose)
    ∙ unwound_stuck t fs (take f.len sl) (take f.height st)

pub unwound_fault : {A : Type 0} (t : Table) (fs : List (Frame A)) (sl : Places) (st : List Value) (k : Trap) (s : Span) (w : ℕ) →
    unwound t fs sl st (fault k s w) ≡ fault k (placed fs s) w
unwound_fault t [] sl st k s w = refl
unwound_fault t (f ∷ fs) sl st k s w =
    ap (unwound t fs (take f.len sl) (take f.height st)) (resumed_fault t f.levels (block_of f.next.now) _ _ f.purpose k s w)
    ∙ unwound_fault t fs (take f.len sl) (take f.height st) k (placed_once f.purpose s) w

pub unwound_after : {A : Type 0} (t : Table) (fs : List (Frame A)) (sl : Places) (st : List Value) (w : ℕ) (o : Out Value) →
    unwound t fs sl st (after_cost w 0 o) ≡ after_cost w 0 (unwound t fs sl st o)
unwound_after t [] sl st w o = refl
unwound_after t (f ∷ fs) sl st w o =
    ap (unwound t fs (take f.len sl) (take f.height st)) (resumed_after t f.levels (block_of f.next.now) _ _ f.purpose w o)
    ∙ unwound_after t fs (take f.len sl) (take f.height st) w _

-- only the slots and the stack of the frames matter
pub unwound_stack : {A : Type 0} (t : Table) (fs : List (Frame A)) (sl : Places) (st st' : List Value) (o : Out Value) →
    take (floor fs) st ≡ take (floor fs) st' → unwound t fs sl st o ≡ unwound t fs sl st' o
unwound_stack t [] sl st st' o e = refl
unwound_stack t (f ∷ fs) sl st st' o e =
    ap (λ s. unwound t fs (take f.len sl) s (resumed t f (drop f.base (take f.len sl)) (above (floor fs) s) o)) e

pub floor_within : {A : Type 0} (fs : List (Frame A)) (a b : ℕ) → Ordered fs a b → floor fs ≤ b
floor_within [] a b h = omega arith
floor_within (f ∷ fs) a b h = h.1

-- frames stay ordered where there is more above them, or less
pub ordered_more : {A : Type 0} (fs : List (Frame A)) (a b c d : ℕ) → Ordered fs a b → a ≤ c → b ≤ d → Ordered fs c d
ordered_more [] a b c d h p q = tt
ordered_more (f ∷ fs) a b c d h p q = (omega (arith, h.0), omega (arith, h.1), h.2, h.3)

pub ordered_less : {A : Type 0} (fs : List (Frame A)) (a b d : ℕ) → Ordered fs a b → floor fs ≤ d → Ordered fs a d
ordered_less [] a b d h p = tt
ordered_less (f ∷ fs) a b d h p = (h.0, p, h.2, h.3)

-- one more value on the stack
pub above_more : (k : ℕ) (st : List Value) (x : Value) → k ≤ length st → above k (st ++ x ∷ []) ≡ x ∷ above k st
above_more k st x h = ap reverse (drop-append-le k st (x ∷ []) h) ∙ reverse-append (drop k st) (x ∷ [])

pub unwound_slots : {A : Type 0} (t : Table) (fs : List (Frame A)) (sl sl' : Places) (st : List Value) (o : Out Value) →
    take (slots_below fs) sl ≡ take (slots_below fs) sl' → unwound t fs sl st o ≡ unwound t fs sl' st o
unwound_slots t [] sl sl' st o e = refl
unwound_slots t (f ∷ fs) sl sl' st o e =
    ap (λ l. unwound t fs l (take f.height st) (resumed t f (drop f.base l) (above (floor fs) (take f.height st)) o)) e

pub slots_within : {A : Type 0} (fs : List (Frame A)) (a b : ℕ) → Ordered fs a b → slots_below fs ≤ a
slots_within [] a b h = omega arith
slots_within (f ∷ fs) a b h = h.0

pub ordered_slots : {A : Type 0} (fs : List (Frame A)) (a b c : ℕ) → Ordered fs a b → slots_below fs ≤ c → Ordered fs c b
ordered_slots [] a b c h p = tt
ordered_slots (f ∷ fs) a b c h p = (p, h.1, h.2, h.3)
