-- Loops over what is read from each item.
use Rattle.std.proofs.Common.{◌≡◌, ℕ, ◌+◌, ◌<◌, ◌≤◌, ℤ, pos, ◌+ℤ◌, Bool, true, false, ◌||◌, ◌&&◌, cond, List, [], ◌∷◌, length, map, drop, get_or, Option, Some, None, option_map, option_and_then, refl, ap, sym, ◌∙◌, arith, count_by}
use Rattle.std.specs.List.{list_any, list_all}
use Rattle.std.proofs.lemmas.List.{drop_more, drop_all}
use Rattle.std.proofs.lemmas.Int.{ints}
use Rattle.std.proofs.lemmas.List.Sums.{sum_by-cons}
use Rattle.nesl_values.specs.Tree.{ValueTree}
use Rattle.nesl_seqs_base.specs.Reductions.{all_of, total}

-- what the loop evaluates to from a state on
abbrev pub folded : {S X : Type 0} → (S → X → S) → (ValueTree → Option X) → S → List ValueTree → Option S
folded step read s [] = Some s
folded step read s (t ∷ ts) = option_and_then (λ x. folded step read (step s x) ts) (read t)

pub folded_more : {S X I : Type 0} (step : S → X → S) (read : ValueTree → Option X) (f : I → ValueTree) (s : S) (is : List I) (k : ℕ) (i : I) (x : X) (all : Option S) → k < length is → i ≡ get_or is k i → Some x ≡ read (f i)
    → folded step read s (map f (drop k is)) ≡ all → folded step read (step s x) (map f (drop (k + 1) is)) ≡ all
folded_more step read f s is k i x all h at here so_far =
    let split : drop k is ≡ i ∷ drop (k + 1) is = drop_more is k i h ∙ ap (λ j. j ∷ drop (k + 1) is) (sym at) in
    let next : folded step read s (map f (drop k is)) ≡ folded step read (step s x) (map f (drop (k + 1) is)) =
    ap (λ js. folded step read s (map f js)) split ∙ ap (option_and_then (λ y. folded step read (step s y) (map f (drop (k + 1) is)))) (sym here) in
    sym next ∙ so_far

pub folded_stop : {S X I : Type 0} (step : S → X → S) (read : ValueTree → Option X) (f : I → ValueTree) (s : S) (is : List I) (k : ℕ) (i : I) (all : Option S) → k < length is → i ≡ get_or is k i → None ≡ read (f i)
    → folded step read s (map f (drop k is)) ≡ all → None ≡ all
folded_stop step read f s is k i all h at here so_far =
    let split : drop k is ≡ i ∷ drop (k + 1) is = drop_more is k i h ∙ ap (λ j. j ∷ drop (k + 1) is) (sym at) in
    let next : folded step read s (map f (drop k is)) ≡ None =
    ap (λ js. folded step read s (map f js)) split ∙ ap (option_and_then (λ y. folded step read (step s y) (map f (drop (k + 1) is)))) (sym here) in
    sym next ∙ so_far

pub folded_end : {S X I : Type 0} (step : S → X → S) (read : ValueTree → Option X) (f : I → ValueTree) (s : S) (is : List I) (k : ℕ) (all : Option S) → length is ≤ k → folded step read s (map f (drop k is)) ≡ all → Some s ≡ all
folded_end step read f s is k all h so_far = sym (ap (λ js. folded step read s (map f js)) (drop_all k is h)) ∙ so_far

after_one : {S X R : Type 0} (step : S → X → S) (h : S → List X → R) → ((s : S) (x : X) (xs : List X) → h (step s x) xs ≡ h s (x ∷ xs)) → (s : S) (x : X) (o : Option (List X))
    → option_map (h (step s x)) o ≡ option_map (h s) (option_map (λ xs. x ∷ xs) o)
after_one step h turn s x None = refl
after_one step h turn s x (Some xs) = ap Some (turn s x xs)

folded_from : {S X : Type 0} (step : S → X → S) (read : ValueTree → Option X) (h : S → List X → S) → ((s : S) (x : X) (xs : List X) → h (step s x) xs ≡ h s (x ∷ xs)) → (s : S) (t : ValueTree) (ts : List ValueTree) (o : Option X)
    → ((x : X) → folded step read (step s x) ts ≡ option_map (h (step s x)) (all_of read ts))
    → option_and_then (λ x. folded step read (step s x) ts) o ≡ option_map (h s) (option_and_then (λ x. option_map (λ xs. x ∷ xs) (all_of read ts)) o)
folded_from step read h turn s t ts None rest = refl
folded_from step read h turn s t ts (Some x) rest = rest x ∙ after_one step h turn s x (all_of read ts)

pub folded_is : {S X : Type 0} (step : S → X → S) (read : ValueTree → Option X) (h : S → List X → S) → ((s : S) → s ≡ h s []) → ((s : S) (x : X) (xs : List X) → h (step s x) xs ≡ h s (x ∷ xs))
    → (s : S) (ts : List ValueTree) → folded step read s ts ≡ option_map (h s) (all_of read ts)
folded_is step read h base turn s [] = ap Some (base s)
folded_is step read h base turn s (t ∷ ts) = folded_from step read h turn s t ts (read t) (λ x. folded_is step read h base turn (step s x) ts)

same_map : {X Y : Type 0} (f g : X → Y) → ((x : X) → f x ≡ g x) → (o : Option X) → option_map f o ≡ option_map g o
same_map f g same None = refl
same_map f g same (Some x) = ap Some (same x)

pub or_more : (s b : Bool) (bs : List Bool) → ((s || b) || list_any (λ c. c) bs) ≡ (s || list_any (λ c. c) (b ∷ bs))
or_more true b bs = refl
or_more false b bs = refl

pub or_none : (s : Bool) → s ≡ (s || false)
or_none true = refl
or_none false = refl

pub folded_or : (read : ValueTree → Option Bool) (ts : List ValueTree) → folded ◌||◌ read false ts ≡ option_map (list_any (λ b. b)) (all_of read ts)
folded_or read ts = folded_is ◌||◌ read (λ s bs. s || list_any (λ b. b) bs) or_none or_more false ts

pub and_more : (s b : Bool) (bs : List Bool) → ((s && b) && list_all (λ c. c) bs) ≡ (s && list_all (λ c. c) (b ∷ bs))
and_more true b bs = refl
and_more false b bs = refl

pub and_none : (s : Bool) → s ≡ (s && true)
and_none true = refl
and_none false = refl

pub folded_and : (read : ValueTree → Option Bool) (ts : List ValueTree) → folded ◌&&◌ read true ts ≡ option_map (list_all (λ b. b)) (all_of read ts)
folded_and read ts = folded_is ◌&&◌ read (λ s bs. s && list_all (λ b. b) bs) and_none and_more true ts

pub folded_sum : (read : ValueTree → Option ℤ) (ts : List ValueTree) → folded ◌+ℤ◌ read (pos 0) ts ≡ option_map total (all_of read ts)
folded_sum read ts =
    folded_is ◌+ℤ◌ read (λ z zs. z +ℤ total zs) (λ z. omega (arith, ints)) (λ z y ys. omega (arith, ints)) (pos 0) ts
    ∙ same_map (λ zs. pos 0 +ℤ total zs) total (λ zs. omega (arith, ints)) (all_of read ts)

pub folded_count : (read : ValueTree → Option Bool) (ts : List ValueTree) → folded (λ n b. n + cond b 1 0) read 0 ts ≡ option_map (count_by (λ b. b)) (all_of read ts)
folded_count read ts =
    folded_is (λ n b. n + cond b 1 0) read (λ n bs. n + count_by (λ b. b) bs) (λ n. omega arith) (λ n b bs. omega (arith, sum_by-cons (λ c. cond c 1 0) b bs)) 0 ts
    ∙ same_map (λ bs. 0 + count_by (λ b. b) bs) (count_by (λ b. b)) (λ bs. omega arith) (all_of read ts)
