-- Elements at places.
use Rattle.std.proofs.Common.{◌≡◌, ℕ, zero, suc, ◌+◌, ◌-◌, ◌<◌, ◌≤◌, ◌⊎◌, inl, inr, List, [], ◌∷◌, map, length, get_or, take, drop, replicate, refl, sym, ap, ◌∙◌, arith, subst, Option, Some, None, true, Bor}
use Rattle.std.specs.Prelude.{slice_get, slice_range, option_map, option_and_then, IfSome, ◌==◌}
use Rattle.std.specs.List.{range_with_len}
use Rattle.std.proofs.lemmas.Option.{slice_get_cases, slice_get-map, slice_get_within}
use Rattle.std.proofs.lemmas.Grind.{common_steps}
use Rattle.std.proofs.lemmas.List.FromFn.{length-range_with_len}
use Rattle.nesl_values.specs.Parts.{elements}
use Rattle.nesl_values.specs.View.{tree_of}
use Rattle.nesl_values.specs.declared.value.Value as code
use Rattle.nesl_eval_code.specs.declared.code.Step.{Step}
use Rattle.nesl_eval_meaning.specs.Names.{Value}
use Rattle.nesl_eval_code.specs.Frames.{Frames, row, place_in, local_at, followed}
use Rattle.nesl_eval_meaning.specs.Out.{value, given}
use Rattle.nesl_eval_nodes.specs.Sides.{places_of}
use Rattle.nesl_eval_nodes.specs.Scopes.{frames_of}
use Rattle.nesl_eval_nodes.proofs.Arms.{drop_next}
use Rattle.nesl_eval_nodes.proofs.Lookups.{in_row, in_tail}
use Rattle.nesl_eval_columns.specs.Each.{EachTwo}
use Rattle.nesl_eval_column_results.specs.declared.block.Block.{Block}
use Rattle.nesl_eval_column_results.specs.declared.columns.Columns.{Columns}
use Rattle.nesl_eval_column_results.specs.declared.scopes.Scopes.{Scopes, Rows}
use Rattle.nesl_eval_column_results.specs.Blocks.{block_places, frames_at, IsWithin}
use Rattle.nesl_eval_column_results.specs.Frames.{bound_at, frames_in, IsAt, AreAt, AllAre, StandsFor, StandsAt}
use Rattle.nesl_eval_column_results.specs.Columns.{value_at}
use Rattle.nesl_eval_column_results.proofs.Each.{each_so, each_at}
use Rattle.nesl_eval_column_results.proofs.Framed.{at_row, some_and}
use Rattle.nesl_eval_column_results.proofs.Valued.{none_left}

-- the element at a place
abbrev pub Stands : {X : Type 0} → List X → ℕ → X → Type 0
Stands xs i x = slice_get xs i ≡ Some x

part_next : {X : Type 0} (xs : List X) (from k : ℕ) → from < length xs → EachTwo (Stands xs) (range_with_len (from + 1) k) (take k (drop (from + 1) xs)) → EachTwo (Stands xs) (range_with_len from (suc k)) (take (suc k) (drop from xs))
part_next xs from k h rest = cases (slice_get_cases xs from).1
  where
    cases : ((x : _) × (from < length xs) × (slice_get xs from ≡ Some x) × (get_or xs from x ≡ x)) ⊎ ((length xs ≤ from) × (slice_get xs from ≡ None)) → EachTwo (Stands xs) (range_with_len from (suc k)) (take (suc k) (drop from xs))
    cases (inl w) = subst (λ ys. EachTwo (Stands xs) (range_with_len from (suc k)) (take (suc k) ys)) (sym (drop_next xs from w.0 w.2)) (w.2, rest)
    cases (inr w) = absurd (omega (arith, w.0))

pub part_at : {X : Type 0} (xs : List X) (from k : ℕ) → from + k ≤ length xs → EachTwo (Stands xs) (range_with_len from k) (take k (drop from xs))
part_at xs from zero h = tt
part_at xs from (suc k) h = part_next xs from k (omega arith) (part_at xs (from + 1) k (omega arith))

take_range : (a m k : ℕ) → k ≤ m → take k (range_with_len a m) ≡ range_with_len a k
take_range a m zero h = refl
take_range a zero (suc k) h = absurd (omega arith)
take_range a (suc m) (suc k) h = ap (λ ks. a ∷ ks) (take_range (a + 1) m k (omega arith))

range_is : (a b m n : ℕ) → a ≡ b → m ≡ n → range_with_len a m ≡ range_with_len b n
range_is a b m n e f = cc

drop_range : (a m k : ℕ) → drop k (range_with_len a m) ≡ range_with_len (a + k) (m - k)
drop_range a m zero = range_is a (a + 0) m (m - 0) (omega arith) (omega arith)
drop_range a zero (suc k) = let none : zero - suc k ≡ zero = omega arith in rw none refl
drop_range a (suc m) (suc k) = drop_range (a + 1) m k ∙ range_is (a + 1 + k) (a + suc k) (m - k) (suc m - suc k) (omega arith) (omega arith)

-- a part of a sequence
pub part_of_all : {X : Type 0} (xs : List X) (n from to : ℕ) → from ≤ to → to ≤ length (range_with_len 0 n) → to ≤ length xs → EachTwo (Stands xs) (slice_range (range_with_len 0 n) from to) (slice_range xs from to)
part_of_all xs n from to h k l =
    let inside : to ≤ n = omega (arith, length-range_with_len 0 n) in
    let its : slice_range (range_with_len 0 n) from to ≡ range_with_len from (to - from) =
    ap (take (to - from)) (drop_range 0 n from ∙ range_is (0 + from) from (n - from) (n - from) (omega arith) refl) ∙ take_range from (n - from) (to - from) (omega arith) in
    rw its (part_at xs from (to - from) (omega arith))

-- the elements as leaves
pub leaves_at : {X : Type 0} (leaf : X → Value) (xs : List X) (ts : List Value) → map leaf xs ≡ ts → (is : List ℕ) (ys : List X) → EachTwo (Stands xs) is ys → EachTwo (Stands ts) is (map leaf ys)
leaves_at leaf xs ts e [] [] h = tt
leaves_at leaf xs ts e [] (y ∷ ys) h = absurd h
leaves_at leaf xs ts e (i ∷ is) [] h = absurd h
leaves_at leaf xs ts e (i ∷ is) (y ∷ ys) h = (ap (λ us. slice_get us i) (sym e) ∙ slice_get-map leaf xs i ∙ ap (option_map leaf) h.0, leaves_at leaf xs ts e is ys h.1)

-- in the newest row
pub row_at : (fs : Frames) (vs : List Value) (index : ℕ) (v : Value) → slice_get vs index ≡ Some v → (is : List ℕ) (ys : List Value) → EachTwo (Stands (elements v)) is ys → EachTwo (λ i y. place_in (row i vs ∷ fs) 0 index ≡ Some y) is ys
row_at fs vs index v e is ys h =
    each_so (Stands (elements v)) (λ i y. place_in (row i vs ∷ fs) 0 index ≡ Some y)
    (λ i y q. in_row vs fs i index ∙ ap (option_and_then (λ u. slice_get (elements u) i)) e ∙ q) is ys h

-- a name without steps
name_at : (fs : Frames) (up index : ℕ) (steps : List Step) (v : Value) → up ≡ 0 → true ≡ (length steps == 0) → place_in fs 0 index ≡ Some v → given (local_at fs up index steps) (λ v. value v 0 0) ≡ value v 0 0
name_at fs up index steps v z e h =
    let F : ℕ → List Step → Type 0 = λ n ss. given (local_at fs n index ss) (λ v. value v 0 0) ≡ value v 0 0 in
    let plain : F 0 [] = ap (λ o. given (option_and_then (followed []) o) (λ v. value v 0 0)) h in
    subst (λ n. F n steps) (sym z) (subst (F 0) (sym (none_left steps e)) plain)

-- a name further up
pub outer_at : (fs : Frames) (vs : List Value) (i up index : ℕ) (steps : List Step) (v : Value) → 0 < up → Some v ≡ local_at fs (up - 1) index steps → given (local_at (row i vs ∷ fs) up index steps) (λ v. value v 0 0) ≡ value v 0 0
outer_at fs vs i up index steps v h e =
    ap (λ o. given (option_and_then (followed steps) o) (λ v. value v 0 0)) (in_tail (row i vs) fs up index h)
    ∙ ap (λ o. given o (λ v. value v 0 0)) (sym e)

-- the same everywhere
pub map_replicate : {X Y : Type 0} (f : X → Y) (n : ℕ) (x : X) → map f (replicate n x) ≡ replicate n (f x)
map_replicate f zero x = refl
map_replicate f (suc n) x = ap (λ ys. f x ∷ ys) (map_replicate f n x)

-- as many as the turns
pub len_range : {X : Type 0} (xs : List X) (from to : ℕ) → from ≤ to → to ≤ length xs → length (slice_range xs from to) ≡ to - from
len_range xs from to h k = grind (arith, common_steps)

-- a name in the rows of a block
pub row_finds : {A T : Type 0} (b : Block A T) (s : Scopes A) (up index : ℕ) (steps : List Step) (vs : List Value) → s ≡ Rows → up ≡ 0 → true ≡ (length steps == 0) → EachTwo (λ i v. place_in (frames_at b i) 0 index ≡ Some v) (block_places b) vs → AreAt (λ fs. given (local_at fs up index steps) (λ v. value v 0 0)) (frames_in b s) (slice_get vs) (λ k. Some 0)
row_finds b s up index steps vs is z e h = λ k fs q.
    let w = at_row b s k fs is q in
    let x = each_at (λ i v. place_in (frames_at b i) 0 index ≡ Some v) (block_places b) vs k w.0 h w.1 in
    let there = subst (λ hs. place_in hs 0 index ≡ Some x.0) w.2 x.2 in
    (x.0, 0, x.1, refl, name_at fs up index steps x.0 z e there)

-- a name above the rows of a block, which has one value
pub above_rows : {A T : Type 0} (b : Block A T) (s : Scopes A) (up index : ℕ) (steps : List Step) (v : Value) → s ≡ Rows → 0 < up → Some v ≡ local_at (frames_of b.scope.now) (up - 1) index steps → AllAre (λ fs. given (local_at fs up index steps) (λ v. value v 0 0)) (frames_in b s) (value v 0 0)
above_rows b s up index steps v is some e = λ k fs q.
    let w = at_row b s k fs is q in
    subst (λ hs. given (local_at hs up index steps) (λ v. value v 0 0) ≡ value v 0 0) w.2
    (outer_at (frames_of b.scope.now) (map tree_of b.values.now) w.0 up index steps v some e)

-- of a value that is lent, if there is one
pub some_tree : {A : Type 0} (o : Option (Bor (code.Value A))) (q : Option Value) (P : Bor (code.Value A) → Type 0) → option_map (λ v. tree_of v.now) o ≡ q → ((v : Bor (code.Value A)) → Some (tree_of v.now) ≡ q → P v) → IfSome o P
some_tree (Some v) q P e law = law v e
some_tree None q P e law = tt

-- a name without a frame above it
stands_finds : {A : Type 0} (hs : Frames) (c : Columns A) (up index k least : ℕ) (steps : List Step) (ys : ℕ → Option Value) → up ≡ 0 → place_in hs 0 index ≡ value_at c k → StandsFor c least steps ys → k < least → IsAt ys (λ j. Some 0) k (given (local_at hs up index steps) (λ v. value v 0 0))
stands_finds hs c up index k least steps ys z is so less =
    let v = so.0 k less in
    let w = so.1 k v.0 v.1 in (
      w.0,
      0,
      w.2,
      refl,
      ap (λ n. given (local_at hs n index steps) (λ v. value v 0 0)) z
          ∙ ap (λ o. given (option_and_then (followed steps) o) (λ v. value v 0 0)) (is ∙ v.1)
          ∙ ap (λ o. given o (λ v. value v 0 0)) w.1,
    )

-- a name in the frame of a `let`
pub bound_finds : {A : Type 0} (cs : List (Columns A)) (gs : Frames) (up index k least : ℕ) (steps : List Step) (ys : ℕ → Option Value) → up ≡ 0 → StandsAt cs index least steps ys → k < least → IsAt ys (λ j. Some 0) k (given (local_at (bound_at cs k ∷ gs) up index steps) (λ v. value v 0 0))
bound_finds cs gs up index k least steps ys z so less =
    let c = some_and (slice_get cs index) (λ c. StandsFor c least steps ys) so in
    let there : place_in (bound_at cs k ∷ gs) 0 index ≡ value_at c.0 k =
    ap (option_and_then (λ o. o)) (slice_get-map (λ d. value_at d k) cs index ∙ ap (option_map (λ d. value_at d k)) c.1) in
    stands_finds (bound_at cs k ∷ gs) c.0 up index k least steps ys z there c.2 less

-- the argument of a call
pub argument_finds : {A : Type 0} (c : Columns A) (up index k least : ℕ) (steps : List Step) (ys : ℕ → Option Value) → up ≡ 0 → index ≡ 0 → StandsFor c least steps ys → k < least → IsAt ys (λ j. Some 0) k (given (local_at ((value_at c k ∷ []) ∷ []) up index steps) (λ v. value v 0 0))
argument_finds c up index k least steps ys z none so less =
    let there : place_in ((value_at c k ∷ []) ∷ []) 0 index ≡ value_at c k = ap (place_in ((value_at c k ∷ []) ∷ []) 0) none in
    stands_finds ((value_at c k ∷ []) ∷ []) c up index k least steps ys z there so less

-- a name further up than a frame
pub name_below : (up index : ℕ) (steps : List Step) → 0 < up → (x : List (Option Value)) (gs : Frames) → given (local_at (x ∷ gs) up index steps) (λ v. value v 0 0) ≡ given (local_at gs (up - 1) index steps) (λ v. value v 0 0)
name_below up index steps h x gs = ap (λ o. given (option_and_then (followed steps) o) (λ v. value v 0 0)) (in_tail x gs up index h)

-- how many turns there are
pub rows_count : {A T : Type 0} (b : Block A T) (s : Scopes A) (k : ℕ) (fs : Frames) → IsWithin b → s ≡ Rows → frames_in b s k ≡ Some fs → k < b.to - b.from
rows_count b s k fs within is e =
    let w = at_row b s k fs is e in
    omega (arith, slice_get_within (block_places b) k w.0 w.1, len_range (places_of b.places) b.from b.to within.0 within.1)
