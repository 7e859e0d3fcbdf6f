-- Places that evaluate to values, with the same work and depth.
use Rattle.std.proofs.Common.{◌≡◌, ℕ, suc, ◌+◌, ◌-◌, ◌*◌, ◌<◌, max, Bool, cond, List, [], ◌∷◌, ◌++◌, map, length, refl, ap, ◌∙◌, arith, subst, ◌≤◌, replicate, Vec, Option, Some, None, sym}
use Rattle.std.specs.Prelude.{sum, slice_get, option_map}
use Rattle.nesl_values.specs.Tree.{boolean, size}
use Rattle.nesl_eval_meaning.specs.Names.{Value}
use Rattle.nesl_eval_code.specs.Frames.{Frames}
use Rattle.nesl_eval_meaning.specs.Out.{Out, value, and_then, beside, all_beside}
use Rattle.nesl_eval_meaning.specs.Outcome.{body_value, place_if_true}
use Rattle.nesl_eval_columns.specs.Each.{EachThree}
use Rattle.nesl_eval_plain.specs.Comes.{Comes, chosen}
use Rattle.nesl_eval_column_results.specs.Costs.{greatest, cost_in, costs_in, costs_at, each_cost}
use Rattle.nesl_eval_column_results.specs.Values.{AreOfSize}
use Rattle.std.proofs.lemmas.Option.{same_Some, slice_get-map, slice_get-get_or, slice_get_within}
use Rattle.std.proofs.lemmas.List.{length-replicate, get_or-replicate}
use Rattle.nesl_eval_column_results.proofs.Costing.{sum_next}
use Rattle.nesl_eval_column_results.proofs.Framed.{frames-Rows}
use Rattle.nesl_eval_column_results.specs.Frames.{AreAt, frames_in}
use Rattle.nesl_eval_plain.proofs.Costed.{cost_is}
use Rattle.nesl_eval_nodes.specs.Sides.{places_of}
use Rattle.nesl_eval_column_results.specs.declared.block.Block.{Block}
use Rattle.nesl_eval_column_results.specs.declared.scopes.Scopes.{Rows}
use Rattle.nesl_eval_column_results.specs.declared.costs.Costs.{Costs}
use Rattle.nesl_eval_column_results.specs.Blocks.{block_places, frames_at, IsWithin}
use Rattle.nesl_eval_column_results.proofs.Places.{len_range}

-- one leaf at all turns
pub replicated : {X : Type 0} (n k : ℕ) (v : X) → k < n → slice_get (replicate n v) k ≡ Some v
replicated n k v h = slice_get-get_or (replicate n v) k v (omega (arith, length-replicate n v)) ∙ ap Some (get_or-replicate n k v v h)

-- the work of each turn is at most that of all
pub greatest_le_sum : (ns : List ℕ) → greatest ns ≤ sum ns
greatest_le_sum [] = omega arith
greatest_le_sum (n ∷ ns) = omega (arith, greatest_le_sum ns, sum_next n ns)

-- the cost at a turn is one of the costs
pub cost_listed : {A : Type 0} (n count : ℕ) (a : Option (Vec ℕ A)) (k m : ℕ) → k < count → cost_in n a k ≡ Some m → slice_get (costs_in n a count) k ≡ Some m
cost_listed n count None k m h e = replicated count k n h ∙ e
cost_listed n count (Some v) k m h e = slice_get-map (λ j. n + j) v.items k ∙ e

-- what was found, as a relation of places, leaves and costs
three_from : {X Y Z : Type 0} (P : X → Y → Z → Type 0) (xs : List X) (ys : List Y) (zs : List Z) → length ys ≡ length xs → length zs ≡ length xs → ((k : ℕ) (x : X) → slice_get xs k ≡ Some x → (y : Y) × (z : Z) × (slice_get ys k ≡ Some y) × (slice_get zs k ≡ Some z) × P x y z) → EachThree P xs ys zs
three_from P [] [] [] l m h = tt
three_from P [] (y ∷ ys) zs l m h = absurd (omega arith)
three_from P [] [] (z ∷ zs) l m h = absurd (omega arith)
three_from P (x ∷ xs) [] zs l m h = absurd (omega arith)
three_from P (x ∷ xs) (y ∷ ys) [] l m h = absurd (omega arith)
three_from P (x ∷ xs) (y ∷ ys) (z ∷ zs) l m h =
    let w = h 0 x refl in
    (subst (λ u. P x u z) (sym (same_Some y w.0 w.2)) (subst (λ u. P x w.0 u) (sym (same_Some z w.1 w.3)) w.4), three_from P xs ys zs (omega arith) (omega arith) (λ k u e. h (suc k) u e))

pub rows_come : {A T : Type 0} (b : Block A T) (p : Frames → Out Value) (c : Costs A) (count : ℕ) (vs : List Value) → IsWithin b → length vs ≡ b.to - b.from → count ≡ b.to - b.from → length (each_cost c count) ≡ count → AreAt p (frames_in b Rows) (slice_get vs) (costs_at c) → Comes (λ i. p (frames_at b i)) (block_places b) vs (each_cost c count)
rows_come b p c count vs within len turns costs h =
    let all = len_range (places_of b.places) b.from b.to within.0 within.1 in
    three_from (λ i v n. p (frames_at b i) ≡ value v n n) (block_places b) vs (each_cost c count) (len ∙ sym all) (costs ∙ turns ∙ sym all)
    (λ k i e. let x = h k (frames_at b i) (frames-Rows b k ∙ ap (option_map (frames_at b)) e) in
    let inside : k < count = omega (arith, slice_get_within (block_places b) k i e, all, turns) in
    (x.0, x.1, x.2, cost_listed c.same count c.more k x.1 inside x.3, x.4))

-- the bodies, whose values have `m` nodes each
pub bodies_of : (p : ℕ → Out Value) (is : List ℕ) (vs : List Value) (ns : List ℕ) (m : ℕ) → Comes p is vs ns → AreOfSize m vs → all_beside (λ i. and_then (p i) body_value) is ≡ value vs (sum ns + m * length is) (greatest ns)
bodies_of p [] [] [] m h l = cost_is [] 0 (sum [] + m * 0) 0 0 (omega arith) refl
bodies_of p (i ∷ is) (v ∷ vs) (n ∷ ns) m h l =
    ap (λ o. beside (and_then o body_value) (all_beside (λ i. and_then (p i) body_value) is)) h.0
    ∙ ap (λ o. beside (and_then (value v n n) body_value) o) (bodies_of p is vs ns m h.1 l.1)
    ∙ cost_is (v ∷ vs) (n + size v + (sum ns + m * length is)) (sum (n ∷ ns) + m * suc (length is)) (max (n + 0) (greatest ns)) (max n (greatest ns)) (omega (arith, l.0, sum_next n ns)) (omega arith)
bodies_of p _ _ _ m h l = absurd h

-- the filters
pub filters_of : (p : ℕ → Out Value) (is : List ℕ) (bs : List Bool) (ns : List ℕ) → Comes p is (map boolean bs) ns → all_beside (λ i. and_then (p i) (place_if_true i)) is ≡ value (chosen is bs) (sum ns) (greatest ns)
filters_of p [] [] [] h = refl
filters_of p (i ∷ is) (b ∷ bs) (n ∷ ns) h =
    ap (λ o. beside (and_then o (place_if_true i)) (all_beside (λ i. and_then (p i) (place_if_true i)) is)) h.0
    ∙ ap (λ o. beside (and_then (value (boolean b) n n) (place_if_true i)) o) (filters_of p is bs ns h.1)
    ∙ cost_is (cond b (i ∷ []) [] ++ chosen is bs) (n + 0 + sum ns) (sum (n ∷ ns)) (max (n + 0) (greatest ns)) (max n (greatest ns)) (omega (arith, sum_next n ns)) (omega arith)
filters_of p [] [] (n ∷ ns) h = absurd h
filters_of p [] (b ∷ bs) ns h = absurd h
filters_of p (i ∷ is) [] ns h = absurd h
filters_of p (i ∷ is) (b ∷ bs) [] h = absurd h
