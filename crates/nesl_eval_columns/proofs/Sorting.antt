-- One more place on its side.
use Rattle.std.proofs.Common.{◌≡◌, ℕ, zero, suc, ◌+◌, ◌-◌, ◌<◌, ◌≤◌, ◌⊎◌, inl, inr, Bool, true, false, cond, List, [], ◌∷◌, length, set, take, refl, sym, ap, ◌∙◌, arith, subst, Some}
use Rattle.std.specs.Prelude.{slice_get}
use Rattle.std.proofs.lemmas.Option.{same_Some, slice_get_within}
use Rattle.nesl_eval_columns.specs.Sides.{Ranks}

-- what is there after a write
pub set_here : {X : Type 0} (xs : List X) (i : ℕ) (x : X) → i < length xs → slice_get (set xs i x) i ≡ Some x
set_here [] i x h = absurd (omega arith)
set_here (y ∷ ys) zero x h = refl
set_here (y ∷ ys) (suc i) x h = set_here ys i x (omega arith)

pub set_before : {X : Type 0} (xs : List X) (i k : ℕ) (x : X) → k < i → slice_get (set xs i x) k ≡ slice_get xs k
set_before [] i k x h = refl
set_before (y ∷ ys) zero k x h = absurd (omega arith)
set_before (y ∷ ys) (suc i) zero x h = refl
set_before (y ∷ ys) (suc i) (suc k) x h = set_before ys i k x (omega arith)

pub take_before : {X : Type 0} (xs : List X) (n k : ℕ) → k < n → slice_get (take n xs) k ≡ slice_get xs k
take_before xs zero k h = absurd (omega arith)
take_before [] (suc n) k h = refl
take_before (y ∷ ys) (suc n) zero h = refl
take_before (y ∷ ys) (suc n) (suc k) h = take_before ys n k (omega arith)

-- the places before this one are ranked
abbrev pub RanksTo : List Bool → List ℕ → List ℕ → List ℕ → ℕ → ℕ → Type 0
RanksTo bs ys ns is turn count = (k : ℕ) (b : Bool) → k < turn → slice_get bs k ≡ Some b → (i : ℕ) × (slice_get is k ≡ Some i) × (i < cond b count (turn - count)) × (slice_get (cond b ys ns) i ≡ Some k)

earlier_or_here : (k n : ℕ) → k < n + 1 → (k < n) ⊎ (k ≡ n)
earlier_or_here zero zero h = inr refl
earlier_or_here zero (suc n) h = inl (omega arith)
earlier_or_here (suc k) zero h = absurd (omega arith)
earlier_or_here (suc k) (suc n) h = by (earlier_or_here k n (omega arith))
  where
    by : (k < n) ⊎ (k ≡ n) → (suc k < suc n) ⊎ (suc k ≡ suc n)
    by (inl less) = inl (omega (arith, less))
    by (inr same) = inr (omega (arith, same))

module _ (bs : List Bool) (ys ns is : List ℕ) (turn count more : ℕ) (flag : Bool) where
  abbrev Next : ℕ → Bool → Type 0
  Next k b = (i : ℕ) × (slice_get (set is turn (cond flag count (turn - count))) k ≡ Some i) × (i < cond b more (turn + 1 - more)) × (slice_get (cond b (set ys count turn) (set ns (turn - count) turn)) i ≡ Some k)

  earlier : count ≤ turn → more ≡ count + cond flag 1 0 → RanksTo bs ys ns is turn count → (k : ℕ) (b : Bool) → k < turn → slice_get bs k ≡ Some b → Next k b
  earlier c m so k true h e =
      let w = so k true h e in
      (w.0, set_before is turn k (cond flag count (turn - count)) h ∙ w.1, grows flag m, set_before ys count w.0 turn w.2 ∙ w.3)
    where
      grows : (f : Bool) → more ≡ count + cond f 1 0 → (so k true h e).0 < more
      grows true q = omega (arith, q, (so k true h e).2)
      grows false q = omega (arith, q, (so k true h e).2)
  earlier c m so k false h e =
      let w = so k false h e in
      (w.0, set_before is turn k (cond flag count (turn - count)) h ∙ w.1, grows flag m, set_before ns (turn - count) w.0 turn w.2 ∙ w.3)
    where
      grows : (f : Bool) → more ≡ count + cond f 1 0 → (so k false h e).0 < turn + 1 - more
      grows true q = omega (arith, q, (so k false h e).2)
      grows false q = omega (arith, q, (so k false h e).2)

  here : (f : Bool) → flag ≡ f → turn < length is → count ≤ turn → turn < length ys → turn < length ns → more ≡ count + cond f 1 0 → Next turn f
  here true e i c y n m =
      (count, set_here is turn (cond flag count (turn - count)) i ∙ ap (λ b. Some (cond b count (turn - count))) e, omega (arith, m), set_here ys count turn (omega arith))
  here false e i c y n m =
      (turn - count, set_here is turn (cond flag count (turn - count)) i ∙ ap (λ b. Some (cond b count (turn - count))) e, omega (arith, m), set_here ns (turn - count) turn (omega arith))

  pub ranks_next : turn < length is → turn < length ys → turn < length ns → count ≤ turn → slice_get bs turn ≡ Some flag → more ≡ count + cond flag 1 0 → RanksTo bs ys ns is turn count → RanksTo bs (set ys count turn) (set ns (turn - count) turn) (set is turn (cond flag count (turn - count))) (turn + 1) more
  ranks_next i y n c its m so k b h e = by (earlier_or_here k turn h)
    where
      by : (k < turn) ⊎ (k ≡ turn) → Next k b
      by (inl less) = earlier c m so k b less e
      by (inr same) =
          let f : flag ≡ b = same_Some flag b (sym its ∙ ap (λ j. slice_get bs j) (sym same) ∙ e) in
          subst (λ j. Next j b) (sym same) (here b f i c y n (m ∙ ap (λ g. count + cond g 1 0) f))

-- all places are ranked
pub ranks_whole : (bs : List Bool) (ys ns is : List ℕ) (turn count : ℕ) → length bs ≤ turn → turn ≤ length bs → RanksTo bs ys ns is turn count → Ranks bs (take count ys) (take (length bs - count) ns) is
ranks_whole bs ys ns is turn count h l so k b e = whole b e
  where
    inside : (xs : List Bool) (j : ℕ) (x : Bool) → slice_get xs j ≡ Some x → j < length xs
    inside xs j x q = slice_get_within xs j x q

    whole : (c : Bool) → slice_get bs k ≡ Some c → (i : ℕ) × (slice_get is k ≡ Some i) × (slice_get (cond c (take count ys) (take (length bs - count) ns)) i ≡ Some k)
    whole true q = let w = so k true (omega (arith, inside bs k true q)) q in (w.0, w.1, take_before ys count w.0 w.2 ∙ w.3)
    whole false q = let w = so k false (omega (arith, inside bs k false q)) q in (w.0, w.1, take_before ns (length bs - count) w.0 (omega (arith, w.2)) ∙ w.3)

-- the same ranks
pub ranks_so : (bs cs : List Bool) (ys us ns ms is js : List ℕ) → bs ≡ cs → ys ≡ us → ns ≡ ms → is ≡ js → Ranks bs ys ns is → Ranks cs us ms js
ranks_so bs cs ys us ns ms is js e f g h r =
    subst (λ x. Ranks x us ms js) e (subst (λ x. Ranks bs x ms js) f (subst (λ x. Ranks bs ys x js) g (subst (λ x. Ranks bs ys ns x) h r)))
