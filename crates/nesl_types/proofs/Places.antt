-- Where a datatype is among the top-level names.
use Rattle.std.proofs.Common.{◌≡◌, ℕ, zero, suc, ◌+◌, ◌<◌, ◌≤◌, Bool, true, false, List, [], ◌∷◌, length, map, slice_get, slice_index, Some, cond, refl, sym, subst, ap, ◌∙◌, inl, inr, arith}
use Rattle.std.proofs.lemmas.Bool.{cases_lt}
use Rattle.std.specs.Str.{bytes_eq}
use Rattle.nesl_types.specs.declared.bindings.Top.{Top}
use Rattle.nesl_types.specs.Names.{named, with_name, with_name_at, is_datatype, datatype_place, datatype_at, is_datatype_at, AreReached}
use Rattle.nesl_types.proofs.Bound.{rows, tops_alone}

-- a name is set where the datatype with a tag is, or the datatype comes after it
set_here : (n : ℕ) (c d : Bool) → d ≡ false → cond c 0 (suc n) ≤ cond d 0 (suc n)
set_here n c true e = absurd cc
set_here n true false e = omega arith
set_here n false false e = omega arith

set_behind : (n m : ℕ) (c : Bool) → n ≤ m → cond c 0 (suc n) ≤ cond c 0 (suc m)
set_behind n m true i = omega arith
set_behind n m false i = omega arith

pub place_within : (tops : List Top) (tag : ℕ) → datatype_place tops tag ≤ length tops
place_within [] tag = omega arith
place_within (b ∷ bs) tag = by (is_datatype tag b) (place_within bs tag)
  where
    by : (c : Bool) → datatype_place bs tag ≤ length bs → cond c 0 (suc (datatype_place bs tag)) ≤ suc (length bs)
    by true i = omega arith
    by false i = omega arith

pub none_before : (tops : List Top) (tag k : ℕ) → k < datatype_place tops tag → is_datatype_at tops k tag ≡ false
none_before [] tag k l = absurd (omega arith)
none_before (b ∷ bs) tag zero l = by (is_datatype tag b) l
  where
    by : (c : Bool) → 0 < cond c 0 (suc (datatype_place bs tag)) → c ≡ false
    by true m = absurd (omega arith)
    by false m = refl
none_before (b ∷ bs) tag (suc k) l = by (is_datatype tag b) l (none_before bs tag k)
  where
    by : (c : Bool) → suc k < cond c 0 (suc (datatype_place bs tag)) → (k < datatype_place bs tag → is_datatype_at bs k tag ≡ false) → is_datatype_at bs k tag ≡ false
    by true m i = absurd (omega arith)
    by false m i = i (omega arith)

pub not_before : (tops : List Top) (tag place : ℕ) → place ≤ length tops → ((k : ℕ) → k < place → is_datatype_at tops k tag ≡ false) → place ≤ datatype_place tops tag
not_before [] tag place l h = omega arith
not_before (b ∷ bs) tag zero l h = omega arith
not_before (b ∷ bs) tag (suc place) l h = by (is_datatype tag b) (h 0 (omega arith)) (not_before bs tag place (omega arith) (λ k m. h (suc k) (omega arith)))
  where
    by : (c : Bool) → c ≡ false → place ≤ datatype_place bs tag → suc place ≤ cond c 0 (suc (datatype_place bs tag))
    by true e i = absurd cc
    by false e i = omega arith

pub not_behind : (tops : List Top) (tag place : ℕ) → is_datatype_at tops place tag ≡ true → datatype_place tops tag ≤ place
not_behind [] tag place h = omega arith
not_behind (b ∷ bs) tag zero h = by (is_datatype tag b) h
  where
    by : (c : Bool) → c ≡ true → cond c 0 (suc (datatype_place bs tag)) ≤ 0
    by true e = omega arith
    by false e = absurd cc
not_behind (b ∷ bs) tag (suc place) h = by (is_datatype tag b) (not_behind bs tag place h)
  where
    by : (c : Bool) → datatype_place bs tag ≤ place → cond c 0 (suc (datatype_place bs tag)) ≤ suc place
    by true i = omega arith
    by false i = omega arith

pub there_within : (tops : List Top) (tag place : ℕ) → is_datatype_at tops place tag ≡ true → place < length tops
there_within [] tag place h = absurd cc
there_within (b ∷ bs) tag zero h = omega arith
there_within (b ∷ bs) tag (suc place) h = omega (arith, there_within bs tag place h)

pub found_place : (tops : List Top) (tag place : ℕ) → ((k : ℕ) → k < place → is_datatype_at tops k tag ≡ false) → is_datatype_at tops place tag ≡ true → place ≡ datatype_place tops tag
found_place tops tag place h e = omega (arith, not_before tops tag place (omega (arith, there_within tops tag place e)) h, not_behind tops tag place e)

pub no_place : (tops : List Top) (tag place : ℕ) → ((k : ℕ) → k < place → is_datatype_at tops k tag ≡ false) → place ≡ length tops → length tops ≡ datatype_place tops tag
no_place tops tag place h e = omega (arith, not_before tops tag place (omega arith) h, place_within tops tag)

-- one more place at which it isn't
pub more_before : (tops : List Top) (tag place : ℕ) → ((k : ℕ) → k < place → is_datatype_at tops k tag ≡ false) → is_datatype_at tops place tag ≡ false →
    (k : ℕ) → k < place + 1 → is_datatype_at tops k tag ≡ false
more_before tops tag place h e k l = elim (cases_lt k place) [
  | inl m ↦ h k m
  | inr m ↦ let s : k ≡ place = omega arith in ap (λ j. is_datatype_at tops j tag) s ∙ e
]

module _ {P : Type 0} where
  -- what the names are, without the names
  abbrev pub tops_of : List (List ℕ × Top × P) → List Top
  tops_of names = map (λ b. b.1) names

  pub at_place : (names : List (List ℕ × Top × P)) (tag : ℕ) → slice_get names (datatype_place (tops_of names) tag) ≡ datatype_at names tag
  at_place [] tag = refl
  at_place (b ∷ bs) tag =
      elim (is_datatype tag b.1) as (λ c. slice_get (b ∷ bs) (cond c 0 (suc (datatype_place (tops_of bs) tag))) ≡ cond c (Some b) (datatype_at bs tag)) [
        | true ↦ refl
        | false ↦ at_place bs tag
      ]

  -- another name, or the name of another datatype, is set
  pub place_kept : (names : List (List ℕ × Top × P)) (tag : ℕ) (name : List ℕ) (top : Top) (payload : P) → is_datatype tag top ≡ false →
      datatype_place (tops_of names) tag ≤ datatype_place (tops_of (with_name name top payload names)) tag
  place_kept [] tag name top payload h = omega arith
  place_kept (b ∷ bs) tag name top payload h =
      elim (bytes_eq name b.0) as (λ c. datatype_place (tops_of (b ∷ bs)) tag ≤ datatype_place (tops_of (cond c ((b.0, top, payload) ∷ bs) (b ∷ with_name name top payload bs))) tag) [
        | true ↦ set_here (datatype_place (tops_of bs) tag) (is_datatype tag b.1) (is_datatype tag top) h
        | false ↦ set_behind (datatype_place (tops_of bs) tag) (datatype_place (tops_of (with_name name top payload bs)) tag) (is_datatype tag b.1) (place_kept bs tag name top payload h)
      ]

  place_kept_at : (names : List (List ℕ × Top × P)) (tag place : ℕ) (top : Top) (payload : P) → is_datatype tag top ≡ false →
      datatype_place (tops_of names) tag ≤ datatype_place (tops_of (with_name_at place top payload names)) tag
  place_kept_at [] tag place top payload h = omega arith
  place_kept_at (b ∷ bs) tag zero top payload h = set_here (datatype_place (tops_of bs) tag) (is_datatype tag b.1) (is_datatype tag top) h
  place_kept_at (b ∷ bs) tag (suc place) top payload h =
      set_behind (datatype_place (tops_of bs) tag) (datatype_place (tops_of (with_name_at place top payload bs)) tag) (is_datatype tag b.1) (place_kept_at bs tag place top payload h)

  pub others_reached : (names : List (List ℕ × Top × P)) (places : List ℕ) (name : List ℕ) (top : Top) (payload : P) → AreReached (tops_of names) places → (tag : ℕ) → is_datatype tag top ≡ false →
      slice_index places tag ≤ datatype_place (tops_of (with_name name top payload names)) tag
  others_reached names places name top payload r tag h = omega (arith, r tag, place_kept names tag name top payload h)

  pub others_reached_at : (names : List (List ℕ × Top × P)) (places : List ℕ) (place : ℕ) (top : Top) (payload : P) → AreReached (tops_of names) places → (tag : ℕ) → is_datatype tag top ≡ false →
      slice_index places tag ≤ datatype_place (tops_of (with_name_at place top payload names)) tag
  others_reached_at names places place top payload r tag h = omega (arith, r tag, place_kept_at names tag place top payload h)

-- the same where names and entries stand apart
module _ {E P : Type 0} (top : E → Top) (payload : E → P) (ns ms : List (List ℕ)) (es ds : List E) (places : List ℕ) (t : Top) (p : P) (l : length ns ≡ length es) (m : length ms ≡ length ds) (reached : AreReached (map top es) places) where
  still_reached : (names : List (List ℕ × Top × P)) → named ms (rows top payload ds) ≡ names → (tag : ℕ) → slice_index places tag ≤ datatype_place (tops_of names) tag → slice_index places tag ≤ datatype_place (map top ds) tag
  still_reached names e tag h = subst (λ ts. slice_index places tag ≤ datatype_place ts tag) (sym (ap tops_of e) ∙ tops_alone top payload ms ds m) h

  before_it : AreReached (tops_of (named ns (rows top payload es))) places
  before_it = subst (λ ts. AreReached ts places) (sym (tops_alone top payload ns es l)) reached

  pub reached_after : (name : List ℕ) → named ms (rows top payload ds) ≡ with_name name t p (named ns (rows top payload es)) → (tag : ℕ) → is_datatype tag t ≡ false → slice_index places tag ≤ datatype_place (map top ds) tag
  reached_after name e tag h = still_reached (with_name name t p (named ns (rows top payload es))) e tag (others_reached (named ns (rows top payload es)) places name t p before_it tag h)

  pub reached_after_at : (place : ℕ) → named ms (rows top payload ds) ≡ with_name_at place t p (named ns (rows top payload es)) → (tag : ℕ) → is_datatype tag t ≡ false → slice_index places tag ≤ datatype_place (map top ds) tag
  reached_after_at place e tag h = still_reached (with_name_at place t p (named ns (rows top payload es))) e tag (others_reached_at (named ns (rows top payload es)) places place t p before_it tag h)
