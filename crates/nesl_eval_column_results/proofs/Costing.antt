-- Costs that are summed, merged and paid.
use Rattle.std.proofs.Common.{◌≡◌, ℕ, zero, suc, ◌+◌, ◌*◌, ◌<◌, Bool, cond, List, [], ◌∷◌, map, length, refl, ap, ◌∙◌, arith, replicate, Vec, Option, Some, None, sym}
use Rattle.std.specs.Prelude.{sum, cond, slice_get, option_map}
use Rattle.std.proofs.lemmas.List.Sums.{sum_by-cons}
use Rattle.nesl_eval_columns.specs.Each.{EachThree}
use Rattle.nesl_eval_column_results.specs.Costs.{greatest, cost_in, costs_in, Sums, Merges}
use Rattle.std.proofs.lemmas.Option.{same_Some}
use Rattle.std.proofs.lemmas.List.{length-replicate}
use Rattle.nesl_eval_column_results.proofs.Framed.{mapped_some}
use Rattle.nesl_eval_column_results.proofs.Each.{three_at}

-- numbers, of which one is before the others
pub sum_next : (n : ℕ) (ns : List ℕ) → sum (n ∷ ns) ≡ n + sum ns
sum_next n ns = sum_by-cons (λ x. x) n ns

-- the part of a cost that differs from turn to turn
cost_split : {A : Type 0} (n : ℕ) (a : Option (Vec ℕ A)) (k m : ℕ) → cost_in n a k ≡ Some m → (j : ℕ) × (cost_in 0 a k ≡ Some j) × (m ≡ n + j)
cost_split n None k m e = (0, refl, omega (arith, same_Some n m e))
cost_split n (Some v) k m e =
    let w = mapped_some (λ j. n + j) (slice_get v.items k) m e in
    (0 + w.0, ap (option_map (λ j. 0 + j)) w.1, omega (arith, w.2))

cost_joined : {A : Type 0} (n : ℕ) (a : Option (Vec ℕ A)) (k j : ℕ) → cost_in 0 a k ≡ Some j → cost_in n a k ≡ Some (n + j)
cost_joined n None k j e = ap Some (omega (arith, same_Some 0 j e))
cost_joined n (Some v) k j e =
    let w = mapped_some (λ i. 0 + i) (slice_get v.items k) j e in
    ap (option_map (λ i. n + i)) w.1 ∙ ap Some (omega (arith, w.2))

pub sums_in : {A : Type 0} (m n o : ℕ) (a b c : Option (Vec ℕ A)) → o ≡ m + n → Sums (cost_in 0 a) (cost_in 0 b) (cost_in 0 c) → Sums (cost_in m a) (cost_in n b) (cost_in o c)
sums_in m n o a b c e h = λ k x y p q.
    let u = cost_split m a k x p in
    let v = cost_split n b k y q in
    cost_joined o c k (u.0 + v.0) (h k u.0 v.0 u.1 v.1) ∙ ap Some (omega (arith, e, u.2, v.2))

pub sums_raised : {A : Type 0} (n by o : ℕ) (a : Option (Vec ℕ A)) → o ≡ n + by → Sums (cost_in n a) (λ k. Some by) (cost_in o a)
sums_raised n by o a e = λ k x y p q.
    let u = cost_split n a k x p in
    cost_joined o a k u.0 u.1 ∙ ap Some (omega (arith, e, u.2, same_Some by y q))

pub sums_none_left : {A : Type 0} (a b : Option (Vec ℕ A)) → a ≡ None → Sums (cost_in 0 a) (cost_in 0 b) (cost_in 0 b)
sums_none_left a b is = λ k x y p q.
    let z : Some 0 ≡ Some x = ap (λ o. cost_in 0 o k) (sym is) ∙ p in
    q ∙ ap Some (omega (arith, same_Some 0 x z))

pub sums_none_right : {A : Type 0} (a b : Option (Vec ℕ A)) → b ≡ None → Sums (cost_in 0 a) (cost_in 0 b) (cost_in 0 a)
sums_none_right a b is = λ k x y p q.
    let z : Some 0 ≡ Some y = ap (λ o. cost_in 0 o k) (sym is) ∙ q in
    p ∙ ap Some (omega (arith, same_Some 0 y z))

pub sums_some : {A : Type 0} (u v w : Vec ℕ A) → EachThree (λ m n o. o ≡ m + n) u.items v.items w.items → Sums (cost_in 0 (Some u)) (cost_in 0 (Some v)) (cost_in 0 (Some w))
sums_some u v w h = λ k x y p q.
    let i = mapped_some (λ j. 0 + j) (slice_get u.items k) x p in
    let j = mapped_some (λ j. 0 + j) (slice_get v.items k) y q in
    let z = three_at (λ m n o. o ≡ m + n) u.items v.items w.items k i.0 j.0 h i.1 j.1 in
    ap (option_map (λ j. 0 + j)) z.1 ∙ ap Some (omega (arith, z.2, i.2, j.2))

-- what has something at each turn of its side
pub merges_from : {X : Type 0} (bs : List Bool) (is : List ℕ) (zs : List X) (ps qs : ℕ → Option X) → EachThree (λ b i z. cond b (ps i) (qs i) ≡ Some z) bs is zs → Merges bs is ps qs (slice_get zs)
merges_from bs is zs ps qs h = λ k b i p q.
    let z = three_at (λ b i z. cond b (ps i) (qs i) ≡ Some z) bs is zs k b i h p q in
    z.1 ∙ sym z.2

pub costs_merged : {A : Type 0} (bs : List Bool) (is : List ℕ) (v : Vec ℕ A) (ps qs : ℕ → Option ℕ) → EachThree (λ b i z. cond b (ps i) (qs i) ≡ Some z) bs is v.items → Merges bs is ps qs (cost_in 0 (Some v))
costs_merged bs is v ps qs h = λ k b i p q.
    let z = three_at (λ b i z. cond b (ps i) (qs i) ≡ Some z) bs is v.items k b i h p q in
    ap (option_map (λ j. 0 + j)) z.1 ∙ ap Some (omega arith) ∙ sym z.2

-- the same cost at `k` turns
sum_same : (n k : ℕ) → sum (replicate k n) ≡ n * k
sum_same n zero = omega arith
sum_same n (suc k) = sum_next n (replicate k n) ∙ omega (arith, sum_same n k)

greatest_same : (n k : ℕ) → 0 < k → greatest (replicate k n) ≡ n
greatest_same n zero h = absurd (omega arith)
greatest_same n (suc zero) h = omega arith
greatest_same n (suc (suc k)) h = let e = greatest_same n (suc k) (omega arith) in omega (arith, e)

pub paid_same : {A : Type 0} (n k work : ℕ) (a : Option (Vec ℕ A)) → a ≡ None → 0 < k → work ≡ n * k → (length (costs_in n a k) ≡ k) × (work ≡ sum (costs_in n a k)) × (n ≡ greatest (costs_in n a k))
paid_same {A} n k work a is h e = by a is
  where
    by : (o : Option (Vec ℕ A)) → o ≡ None → (length (costs_in n o k) ≡ k) × (work ≡ sum (costs_in n o k)) × (n ≡ greatest (costs_in n o k))
    by None q = (length-replicate k n, e ∙ sym (sum_same n k), sym (greatest_same n k h))
    by (Some v) q = absurd cc

-- costs that are in a list
len_map : {X Y : Type 0} (f : X → Y) (xs : List X) → length (map f xs) ≡ length xs
len_map f [] = refl
len_map f (x ∷ xs) = ap suc (len_map f xs)

pub paid_listed : {A : Type 0} (n k : ℕ) (a : Option (Vec ℕ A)) (v : Vec ℕ A) (ms : List ℕ) (work depth : ℕ) → a ≡ Some v → ms ≡ v.items → length ms ≡ k → work ≡ sum (map (λ m. n + m) ms) → depth ≡ greatest (map (λ m. n + m) ms) → (length (costs_in n a k) ≡ k) × (work ≡ sum (costs_in n a k)) × (depth ≡ greatest (costs_in n a k))
paid_listed n k a v ms work depth is its len e h =
    let listed : map (λ m. n + m) ms ≡ costs_in n a k = ap (map (λ m. n + m)) its ∙ ap (λ o. costs_in n o k) (sym is) in
    (ap length (sym listed) ∙ len_map (λ m. n + m) ms ∙ len, e ∙ ap sum listed, h ∙ ap greatest listed)
