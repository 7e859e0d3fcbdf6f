-- Local names that come and go.
use Rattle.std.proofs.Common.{◌≡◌, ℕ, zero, suc, ◌+◌, ◌≤◌, refl, sym, ◌∙◌, ap, arith, inl, inr, ◌⊎◌, List, [], ◌∷◌, ◌++◌, length, take, drop, reverse, ◌-◌, Some, None, Vec}
use Rattle.std.specs.Prelude.{slice_get}
use Rattle.std.proofs.lemmas.List.{take-append-le, drop-append-le, take-append-drop, reverse-append}
use Rattle.std.proofs.Math.ListN.{length-append}
use Rattle.nesl_values.specs.View.{tree_of}
use Rattle.nesl_values.specs.declared.value.Value as code
use Rattle.nesl_eval_meaning.specs.Names.{Value}
use Rattle.nesl_eval_meaning.specs.Out.{Out, stuck}
use Rattle.nesl_eval_code.specs.Run.{Table}
use Rattle.nesl_eval_code.specs.Block.{Block, bind, forget}
use Rattle.nesl_eval_code.specs.Exec.{Places, exec}
use Rattle.nesl_eval_nodes.proofs.Arms.{drop_next, drop_past}
use Rattle.nesl_eval_machine.specs.declared.state.Frame.{Frame}
use Rattle.nesl_eval_machine.specs.declared.state.Machine.{Machine}
use Rattle.nesl_eval_machine.specs.State.{places_of, frames_of, slots_of, stack_of, env_of, local_of, left_with, left_at, Fits}
use Rattle.nesl_eval_rounds.specs.Leads.{Leads}
use Rattle.nesl_eval_machine.specs.Steps.{Goes, slots_below}
use Rattle.nesl_eval_rounds.proofs.Laws.{after_none}
use Rattle.nesl_eval_machine.proofs.Unwinding.{unwound_stuck, unwound_slots, ordered_more, ordered_slots, slots_within}
use Rattle.nesl_eval_rounds.proofs.Rows.{places_more}
use Rattle.nesl_eval_machine.proofs.Entering.{places_long, places_cut}

-- one more local name
pub bound : {A : Type 0} (t : Table) (m : Machine A) (slots : Vec (code.Value A) A) (v : code.Value A) (b : Block) →
    slots.items ≡ m.slots.items ++ v ∷ [] → Fits t m →
    Goes t m.meter.fuel (record m { slots = slots }) b (left_with t m (exec t m.levels (env_of m) (bind b) (tree_of v ∷ local_of m)))
bound {A} t m slots v b is fits =
    let n : Machine A = record m { slots = slots } in
    let fs = frames_of m in
    let v' : Places = Some (tree_of v) ∷ [] in
    let long = places_long m.slots.items in
    let longer : length slots.items ≡ length m.slots.items + 1 = ap length is ∙ length-append m.slots.items (v ∷ []) in
    let low = slots_within fs (length m.slots.items) (length m.stack.items) fits.1 in
    let more : places_of slots.items ≡ slots_of m ++ v' = ap places_of is ∙ places_more m.slots.items (v ∷ []) in
    let env : drop m.base (places_of slots.items) ≡ env_of m ++ v' = ap (drop m.base) more ∙ drop-append-le m.base (slots_of m) v' (omega (arith, fits.2)) in
    let below : take (slots_below fs) (slots_of m) ≡ take (slots_below fs) (places_of slots.items) =
    sym (ap (take (slots_below fs)) more ∙ take-append-le (slots_below fs) (slots_of m) v' (omega arith)) in (record {
      work = 0;
      spent = omega arith;
      same =
          ap (λ e. left_with t m (exec t m.levels e b (local_of m))) (sym env)
          ∙ unwound_slots t fs (slots_of m) (places_of slots.items) (stack_of m) _ below
          ∙ sym (after_none (left_at t n b));
      fits = (fits.0, ordered_more fs (length m.slots.items) (length m.stack.items) _ _ fits.1 (omega arith) (omega arith), omega (arith, fits.2));
    })

cut_behind : {X : Type 0} (b k : ℕ) (xs : List X) → take k (drop b xs) ≡ drop b (take (b + k) xs)
cut_behind zero k xs = let e : k ≡ 0 + k = omega arith in ap (λ j. take j xs) e
cut_behind {X} (suc b) zero [] = let e : suc b + zero ≡ suc (b + zero) = omega arith in ap (λ j. drop (suc b) (take {A = X} j [])) (sym e)
cut_behind {X} (suc b) (suc k) [] = let e : suc b + suc k ≡ suc (b + suc k) = omega arith in ap (λ j. drop (suc b) (take {A = X} j [])) (sym e)
cut_behind (suc b) k (x ∷ xs) = let e : suc b + k ≡ suc (b + k) = omega arith in cut_behind b k xs ∙ ap (λ j. drop (suc b) (take j (x ∷ xs))) (sym e)

cut_twice : {X : Type 0} (j k : ℕ) (xs : List X) → j ≤ k → take j (take k xs) ≡ take j xs
cut_twice zero k xs h = refl
cut_twice (suc j) zero xs h = absurd (omega arith)
cut_twice (suc j) (suc k) [] h = refl
cut_twice (suc j) (suc k) (x ∷ xs) h = ap (λ l. x ∷ l) (cut_twice j k xs (omega arith))

cut_long : {X : Type 0} (j k : ℕ) (xs : List X) → j ≤ k → j ≤ length xs → j ≤ length (take k xs)
cut_long zero k xs h i = omega arith
cut_long (suc j) zero xs h i = absurd (omega arith)
cut_long (suc j) (suc k) [] h i = absurd (omega arith)
cut_long (suc j) (suc k) (x ∷ xs) h i = let e = cut_long j k xs (omega arith) (omega arith) in omega arith

-- the first `k` local names are left, over any values
pub forgotten_under : {A : Type 0} (t : Table) (m : Machine A) (slots : Vec (code.Value A) A) (len k : ℕ) (b : Block) (vs : List Value) →
    slots.items ≡ take len m.slots.items → len ≡ m.base + k → slots_below (frames_of m) ≤ len → Fits t m →
    let n : Machine A = record m { slots = slots } in
    Leads m.meter.fuel m.meter.fuel (left_with t m (exec t m.levels (env_of m) (forget k b) vs)) (left_with t n (exec t m.levels (env_of n) b vs)) (Fits t n)
forgotten_under {A} t m slots len k b vs is at low fits =
    let n : Machine A = record m { slots = slots } in
    let fs = frames_of m in
    let all = slots_within fs (length m.slots.items) (length m.stack.items) fits.1 in
    let cut : places_of slots.items ≡ take len (slots_of m) = ap places_of is ∙ sym (places_cut len m.slots.items) in
    let env : drop m.base (places_of slots.items) ≡ take k (env_of m) =
    ap (drop m.base) cut ∙ ap (λ j. drop m.base (take j (slots_of m))) at ∙ sym (cut_behind m.base k (slots_of m)) in
    let below : take (slots_below fs) (slots_of m) ≡ take (slots_below fs) (places_of slots.items) =
    sym (ap (take (slots_below fs)) cut ∙ cut_twice (slots_below fs) len (slots_of m) low) in
    let long : (j : ℕ) → j ≤ len → j ≤ length m.slots.items → j ≤ length slots.items =
    λ j p q. let e = cut_long j len m.slots.items p q in let f = ap length is in omega arith in (record {
      work = 0;
      spent = omega arith;
      same =
          ap (λ e. left_with t m (exec t m.levels e b vs)) (sym env)
          ∙ unwound_slots t fs (slots_of m) (places_of slots.items) (stack_of m) _ below
          ∙ sym (after_none (left_with t n (exec t m.levels (env_of n) b vs)));
      fits = (fits.0, ordered_slots fs (length m.slots.items) (length m.stack.items) _ fits.1 (long (slots_below fs) low all), long m.base (omega arith) fits.2);
    })

pub forgotten : {A : Type 0} (t : Table) (m : Machine A) (slots : Vec (code.Value A) A) (len k : ℕ) (b : Block) →
    slots.items ≡ take len m.slots.items → len ≡ m.base + k → slots_below (frames_of m) ≤ len → Fits t m →
    Goes t m.meter.fuel (record m { slots = slots }) b (left_at t m (forget k b))
forgotten t m slots len k b is at low fits = forgotten_under t m slots len k b (local_of m) is at low fits

-- another block in the place of one that is last
pub last_goes : {A : Type 0} (t : Table) (m : Machine A) (b : Block) (o : List Value → Out Value) → Fits t m →
    o [] ≡ exec t m.levels (env_of m) b [] → ((y : Value) (vs : List Value) → o (y ∷ vs) ≡ stuck) →
    (left_with t m (o (local_of m)) ≡ stuck) ⊎ Goes t m.meter.fuel m b (left_with t m (o (local_of m)))
last_goes t m b o fits same other = by_local (local_of m) refl
  where
    by_local : (vs : List Value) → local_of m ≡ vs → (left_with t m (o (local_of m)) ≡ stuck) ⊎ Goes t m.meter.fuel m b (left_with t m (o (local_of m)))
    by_local [] e = inr (record {
      work = 0;
      spent = omega arith;
      same =
          ap (λ l. left_with t m (o l)) e ∙ ap (left_with t m) same ∙ ap (λ l. left_with t m (exec t m.levels (env_of m) b l)) (sym e)
          ∙ sym (after_none (left_at t m b));
      fits = fits;
    })
    by_local (y ∷ vs) e = inl (ap (λ l. left_with t m (o l)) e ∙ ap (left_with t m) (other y vs) ∙ unwound_stuck t (frames_of m) (slots_of m) (stack_of m))

-- the frame on top
pub last_frame : {A : Type 0} (xs : List (Frame A)) (f : Frame A) → slice_get xs (length xs - 1) ≡ Some f → slots_below (reverse xs) ≡ f.len
last_frame [] f h = absurd (cc h)
last_frame (x ∷ xs) f h =
    let at : length (x ∷ xs) - 1 ≡ length xs = omega arith in
    let there : slice_get (x ∷ xs) (length xs) ≡ Some f = ap (slice_get (x ∷ xs)) (sym at) ∙ h in
    let end : length (x ∷ xs) ≡ length xs + 1 = omega arith in
    let split : x ∷ xs ≡ take (length xs) (x ∷ xs) ++ f ∷ [] =
    sym (take-append-drop (length xs) (x ∷ xs)) ∙ ap (λ l. take (length xs) (x ∷ xs) ++ l)
    (drop_next (x ∷ xs) (length xs) f there ∙ ap (λ l. f ∷ l) (drop_past (x ∷ xs) (length xs + 1) end)) in
    ap (λ l. slots_below (reverse l)) split ∙ ap slots_below (reverse-append (take (length xs) (x ∷ xs)) (f ∷ []))

-- there is none
pub no_frame : {A : Type 0} (xs : List (Frame A)) → slice_get xs (length xs - 1) ≡ None → slots_below (reverse xs) ≡ 0
no_frame [] h = refl
no_frame (x ∷ xs) h =
    let at : length (x ∷ xs) - 1 ≡ length xs = omega arith in
    absurd (last_there x xs (ap (slice_get (x ∷ xs)) (sym at) ∙ h))
  where
    last_there : {X : Type 0} (x : X) (xs : List X) → slice_get (x ∷ xs) (length xs) ≡ None → ⊥
    last_there x [] h = absurd (cc h)
    last_there x (y ∷ xs) h = last_there y xs h
