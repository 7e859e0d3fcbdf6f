-- Block after block.
use Rattle.std.proofs.Common.{◌≡◌, ℕ, zero, suc, true, set, append-nil, ◌+◌, ◌-◌, ◌*◌, ◌<◌, ◌≤◌, max, Bool, cond, List, [], ◌∷◌, ◌++◌, map, length, take, drop, take_all, get_or, get_or-drop, length-take, take-add, drop-drop, length-drop, Some, Result, Ok, Err, false, refl, sym, ap, ◌∙◌, arith, append_assoc}
use Rattle.std.specs.Prelude.{slice_range, slice_get, MatchResult, is_err, sum}
use Rattle.std.proofs.lemmas.Grind.{take_at_read}
use Rattle.std.proofs.lemmas.List.{take_more_set, take-set}
use Rattle.std.proofs.lemmas.Option.{slice_get_within, get_or_from_slice_get}
use Rattle.nesl_values.specs.Tree.{boolean}
use Rattle.nesl_eval_meaning.specs.Names.{Value}
use Rattle.nesl_eval_meaning.specs.Out.{Out, value, and_then, beside, all_beside}
use Rattle.nesl_eval_meaning.specs.Outcome.{body_value, place_if_true}
use Rattle.nesl_eval_meaning.proofs.Joins.{all_halved}
use Rattle.nesl_eval_plain.specs.Comes.{Comes, chosen}
use Rattle.nesl_eval_column_results.specs.Costs.{greatest}
use Rattle.nesl_eval_column_results.specs.Values.{AreOfSize}
use Rattle.nesl_eval_plain.proofs.Comes.{bodies_of, filters_of}
use Rattle.nesl_eval_column_results.proofs.Places.{len_range}

value_is : {X : Type 0} (xs ys : X) (m n i j : ℕ) → xs ≡ ys → m ≡ n → i ≡ j → value xs m i ≡ value ys n j
value_is xs ys m n i j e f h = cc

-- a part that is cut in two
range_cut : {X : Type 0} (xs : List X) (from centre to : ℕ) → from ≤ centre → centre ≤ to → slice_range xs from to ≡ slice_range xs from centre ++ slice_range xs centre to
range_cut xs from centre to h k =
    let both : to - from ≡ (centre - from) + (to - centre) = omega arith in
    let there : from + (centre - from) ≡ centre = omega arith in
    ap (λ n. take n (drop from xs)) both ∙ take-add (centre - from) (to - centre) (drop from xs)
    ∙ ap (λ ys. take (centre - from) (drop from xs) ++ take (to - centre) ys) (drop-drop (centre - from) from xs ∙ ap (λ n. drop n xs) there)

-- one more block
more : {X : Type 0} (p : ℕ → Out (List X)) (is js ks : List ℕ) (xs ys : List X) (w v d e : ℕ) → ks ≡ is ++ js → all_beside p is ≡ value xs w d → all_beside p js ≡ value ys v e → all_beside p ks ≡ value (xs ++ ys) (w + v) (max d e)
more p is js ks xs ys w v d e q h k =
    ap (all_beside p) q ∙ all_halved p is js ∙ ap (λ o. beside o (all_beside p js)) h ∙ ap (λ o. beside (value xs w d) o) k

-- the state after a block: what was made, and what is left of the fuel
module _ {X : Type 0} (p : ℕ → Out (List X)) (places : List ℕ) (from turn end fuel left left' most most' w n : ℕ) (xs ys zs : List X) where
  pub next_block : from ≤ turn → turn < end → end ≤ length places → left ≤ fuel → left ≡ left' + w → zs ≡ xs ++ ys → most' ≡ max most n → all_beside p (slice_range places from turn) ≡ value xs (fuel - left) most → all_beside p (slice_range places turn end) ≡ value ys w n → all_beside p (slice_range places from end) ≡ value zs (fuel - left') most'
  next_block a b c d e z m h k =
      more p (slice_range places from turn) (slice_range places turn end) (slice_range places from end) xs ys (fuel - left) w most n (range_cut places from turn end a (omega arith)) h k
      ∙ value_is (xs ++ ys) zs (fuel - left + w) (fuel - left') (max most n) most' (sym z) (omega arith) (sym m)

-- nothing yet
pub no_block : {X : Type 0} (p : ℕ → Out (List X)) (places : List ℕ) (from fuel : ℕ) (xs : List X) → xs ≡ [] → all_beside p (slice_range places from from) ≡ value xs (fuel - fuel) 0
no_block p places from fuel xs e =
    let none : from - from ≡ zero = omega arith in
    ap (λ n. all_beside p (take n (drop from places))) none ∙ value_is [] xs 0 (fuel - fuel) 0 0 (sym e) (omega arith) refl

-- the bodies of a block
pub block_bodies : (p : ℕ → Out Value) (vs : List Value) (ns : List ℕ) (nodes : ℕ) (places : List ℕ) (turn end : ℕ) → turn < end → end ≤ length places → Comes p (slice_range places turn end) vs ns → AreOfSize nodes vs → all_beside (λ i. and_then (p i) body_value) (slice_range places turn end) ≡ value vs (sum ns + nodes * (end - turn)) (greatest ns)
block_bodies p vs ns nodes places turn end a b h l =
    bodies_of p (slice_range places turn end) vs ns nodes h l
    ∙ value_is vs vs (sum ns + nodes * length (slice_range places turn end)) (sum ns + nodes * (end - turn)) (greatest ns) (greatest ns) refl (ap (λ k. sum ns + nodes * k) (len_range places turn end (omega arith) b)) refl

-- the filters of a block
chosen_take : (n : ℕ) (is : List ℕ) (bs : List Bool) → length bs ≤ n → chosen (take n is) bs ≡ chosen is bs
chosen_take n [] bs h = take_none n bs
  where
    take_none : (n : ℕ) (bs : List Bool) → chosen (take n []) bs ≡ chosen [] bs
    take_none zero bs = refl
    take_none (suc n) bs = refl
chosen_take zero (i ∷ is) [] h = refl
chosen_take zero (i ∷ is) (b ∷ bs) h = absurd (omega arith)
chosen_take (suc n) (i ∷ is) [] h = refl
chosen_take (suc n) (i ∷ is) (b ∷ bs) h = ap (λ ks. cond b (i ∷ []) [] ++ ks) (chosen_take n is bs (omega arith))

pub block_filters : (p : ℕ → Out Value) (ns : List ℕ) (places : List ℕ) (turn end : ℕ) (bs : List Bool) → turn < end → end ≤ length places → Comes p (slice_range places turn end) (map boolean bs) ns → length bs ≡ end - turn → all_beside (λ i. and_then (p i) (place_if_true i)) (slice_range places turn end) ≡ value (chosen (drop turn places) bs) (sum ns + 0) (greatest ns)
block_filters p ns places turn end bs a b h l =
    filters_of p (slice_range places turn end) bs ns h
    ∙ value_is (chosen (slice_range places turn end) bs) (chosen (drop turn places) bs) (sum ns) (sum ns + 0) (greatest ns) (greatest ns) (chosen_take (end - turn) (drop turn places) bs (omega arith)) (omega arith) refl

len_map : {X Y : Type 0} (f : X → Y) (xs : List X) → length (map f xs) ≡ length xs
len_map f [] = refl
len_map f (x ∷ xs) = ap suc (len_map f xs)

pub flags_len : (bs : List Bool) (vs : List Value) (n : ℕ) → map boolean bs ≡ vs → length vs ≡ n → length bs ≡ n
flags_len bs vs n e l = sym (len_map boolean bs) ∙ ap length e ∙ l

-- one more place
chosen_push : (is : List ℕ) (bs : List Bool) (i : ℕ) (b : Bool) → length is ≡ length bs → chosen (is ++ i ∷ []) (bs ++ b ∷ []) ≡ chosen is bs ++ cond b (i ∷ []) []
chosen_push [] [] i b h = append_none (cond b (i ∷ []) [])
  where
    append_none : (ks : List ℕ) → ks ++ [] ≡ ks
    append_none [] = refl
    append_none (k ∷ ks) = ap (λ js. k ∷ js) (append_none ks)
chosen_push [] (c ∷ bs) i b h = absurd (omega arith)
chosen_push (j ∷ is) [] i b h = absurd (omega arith)
chosen_push (j ∷ is) (c ∷ bs) i b h =
    ap (λ ks. cond c (j ∷ []) [] ++ ks) (chosen_push is bs i b (omega arith)) ∙ sym (append_assoc (cond c (j ∷ []) []) (chosen is bs) (cond b (i ∷ []) []))

-- what a call ensures of its `Ok`
pub ok_so : {E : Type 0} (C : Type 0) (Q : E → Type 0) (r : Result (Unit {0}) E) → MatchResult r (λ x. C) Q → false ≡ is_err r → C
ok_so C Q (Ok x) h e = h
ok_so C Q (Err x) h e = cc

-- one more turn of a filter
turn_at : {X : Type 0} (xs : List X) (from k : ℕ) (x : X) → slice_get xs (from + k) ≡ Some x → take (k + 1) (drop from xs) ≡ take k (drop from xs) ++ x ∷ []
turn_at xs from k x h =
    let inside = slice_get_within xs (from + k) x h in
    let len : length (drop from xs) ≡ length xs - from = length-drop from xs in
    let some : k < length (drop from xs) = omega (arith, inside, len) in
    let its : get_or (drop from xs) k x ≡ x = get_or-drop from xs k x ∙ get_or_from_slice_get xs (from + k) x x h in
    (take_at_read (drop from xs) k x some).1 ∙ ap (λ y. take k (drop from xs) ++ y ∷ []) its

flag_at : (bs : List Bool) (k : ℕ) → k < length bs → take (k + 1) bs ≡ take k bs ++ get_or bs k false ∷ []
flag_at bs k h = (take_at_read bs k false h).1

pub next_turn : (places : List ℕ) (bs : List Bool) (from turn to place : ℕ) (old new start : List ℕ) → from ≤ turn → turn < to → to ≤ length places → length bs ≡ to - from → slice_get places turn ≡ Some place → new ≡ old ++ cond (get_or bs (turn - from) false) (place ∷ []) [] → old ≡ start ++ chosen (take (turn - from) (drop from places)) (take (turn - from) bs) → new ≡ start ++ chosen (take (turn + 1 - from) (drop from places)) (take (turn + 1 - from) bs)
next_turn places bs from turn to place old new start a b c l h n o =
    let k = turn - from in
    let there : from + k ≡ turn = omega arith in
    let more : turn + 1 - from ≡ k + 1 = omega arith in
    let its : slice_get places (from + k) ≡ Some place = ap (λ i. slice_get places i) there ∙ h in
    let flag = get_or bs k false in
    let same : length (take k (drop from places)) ≡ length (take k bs) = omega (arith, length-take k (drop from places), length-take k bs, length-drop from places) in
    n ∙ ap (λ ks. ks ++ cond flag (place ∷ []) []) o
    ∙ append_assoc start (chosen (take k (drop from places)) (take k bs)) (cond flag (place ∷ []) [])
    ∙ ap (λ ks. start ++ ks) (sym (chosen_push (take k (drop from places)) (take k bs) place flag same)
    ∙ ap (λ js. chosen js (take k bs ++ flag ∷ [])) (sym (turn_at places from k place its))
    ∙ ap (λ cs. chosen (take (k + 1) (drop from places)) cs) (sym (flag_at bs k (omega arith)))
    ∙ ap (λ m. chosen (take m (drop from places)) (take m bs)) (sym more))

pub all_turns : (places : List ℕ) (bs : List Bool) (from turn to : ℕ) (new start : List ℕ) → from ≤ to → to ≤ turn → turn ≤ to → length bs ≡ to - from → new ≡ start ++ chosen (take (turn - from) (drop from places)) (take (turn - from) bs) → new ≡ start ++ chosen (drop from places) bs
all_turns places bs from turn to new start a b c l h =
    let whole : take (turn - from) bs ≡ bs = take_all (turn - from) bs (omega arith) in
    h ∙ ap (λ cs. start ++ chosen (take (turn - from) (drop from places)) cs) whole ∙ ap (λ ks. start ++ ks) (chosen_take (turn - from) (drop from places) bs (omega arith))

-- one more place that is written, and counts if it is chosen
chosen_more : (out : List ℕ) (count count' place : ℕ) (flag : Bool) → count < length out → count' ≡ count + cond flag 1 0 → take count' (set out count place) ≡ take count out ++ cond flag (place ∷ []) []
chosen_more out count count' place true h e = ap (λ n. take n (set out count place)) e ∙ take_more_set out count place h
chosen_more out count count' place false h e =
    let same : count' ≡ count = omega (arith, e) in
    ap (λ n. take n (set out count place)) same ∙ take-set out count place ∙ sym (append-nil (take count out))

pub next_written : (places : List ℕ) (bs : List Bool) (from turn to place : ℕ) (out : List ℕ) (count count' : ℕ) → from ≤ turn → turn < to → to ≤ length places → length bs ≡ to - from → count < length out → slice_get places turn ≡ Some place → count' ≡ count + cond (get_or bs (turn - from) false) 1 0 → take count out ≡ chosen (take (turn - from) (drop from places)) (take (turn - from) bs) → take count' (set out count place) ≡ chosen (take (turn + 1 - from) (drop from places)) (take (turn + 1 - from) bs)
next_written places bs from turn to place out count count' a b c l room h e o =
    next_turn places bs from turn to place (take count out) (take count' (set out count place)) [] a b c l h (chosen_more out count count' place (get_or bs (turn - from) false) room e) o
