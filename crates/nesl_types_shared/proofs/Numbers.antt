-- Variables that are numbered in order of first occurrence.
use Rattle.std.proofs.Common.{◌≡◌, ℕ, zero, suc, ◌+◌, ◌<◌, ◌≤◌, Bool, true, false, ◌||◌, List, [], ◌∷◌, ◌++◌, length, fold, map, nat_eq, nat_lt, position, Some, None, cond, refl, sym, ap, subst, ◌∙◌, append_assoc, append-nil, length-append, inl, inr, arith}
use Rattle.std.proofs.lemmas.List.{map-append}
use Rattle.std.proofs.lemmas.List.Sums.{fold-append}
use Rattle.std.proofs.lemmas.Bool.{cases_lt, false≢true}
use Rattle.std.proofs.lemmas.Bool.Decides.{nat_tests}
use Rattle.std.proofs.lemmas.List.Folds.{list_any-append}
use Rattle.std.specs.List.{list_any, position_or_len}
use Rattle.std.proofs.lemmas.List.Recursion.{is_position_or_len}
use Rattle.nesl_types_shared.specs.Term.{Term, int, bool, char, variable, seq_of, pair_of, named}
use Rattle.nesl_types_shared.specs.Substitution.{substitute}
use Rattle.nesl_types_shared.specs.Numbering.{variables, with_number, first_occurrences, numbers_below, number_of, IsBelow}

nat_eq-self : (n : ℕ) → nat_eq n n ≡ true
nat_eq-self n = grind (arith, nat_tests)

same : (k n : ℕ) → k ≡ n → (nat_eq k n || false) ≡ true
same k n e = grind (arith, nat_tests)

or_left : (a b : Bool) → a ≡ true → (a || b) ≡ true
or_left true b h = refl
or_left false b h = cc

or_right : (a b : Bool) → b ≡ true → (a || b) ≡ true
or_right true b h = refl
or_right false b h = h

-- renaming a type renames its variables
pub variables-renamed : (f : ℕ → ℕ) (t : Term) → variables (substitute (λ v. variable (f v)) t) ≡ map f (variables t)
variables-renamed f int = refl
variables-renamed f bool = refl
variables-renamed f char = refl
variables-renamed f (variable v) = refl
variables-renamed f (seq_of t) = variables-renamed f t
variables-renamed f (pair_of t u) = let e = variables-renamed f t in let d = variables-renamed f u in rw (e, d, map-append) refl
variables-renamed f (named n) = refl

-- what was noted stays in front
fold-prefix : (xs seen : List ℕ) → (more : List ℕ) × (fold with_number seen xs ≡ seen ++ more)
fold-prefix [] seen = ([], sym (append-nil seen))
fold-prefix (v ∷ xs) seen =
    let kept = fold-prefix xs seen in
    let added = fold-prefix xs (seen ++ v ∷ []) in
    elim (list_any (nat_eq v) seen) as (λ b. (more : List ℕ) × (fold with_number (cond b seen (seen ++ v ∷ [])) xs ≡ seen ++ more)) [
      | true ↦ kept
      | false ↦ (v ∷ added.0, added.1 ∙ append_assoc seen (v ∷ []) added.0)
    ]

-- the first place of a number
number-at : (v : ℕ) (seen more : List ℕ) → list_any (nat_eq v) seen ≡ false → number_of (seen ++ v ∷ more) v ≡ length seen
number-at v [] more h = rw (nat_eq-self v) refl
number-at v (x ∷ seen) more h = by (nat_eq v x) h (number-at v seen more)
  where
    by : (b : Bool) → (b || list_any (nat_eq v) seen) ≡ false → (list_any (nat_eq v) seen ≡ false → number_of (seen ++ v ∷ more) v ≡ length seen) → cond b 0 (1 + number_of (seen ++ v ∷ more) v) ≡ suc (length seen)
    by true e i = cc
    by false e i = let j = i e in omega arith

number-within : (v : ℕ) (seen more : List ℕ) → list_any (nat_eq v) seen ≡ true → number_of (seen ++ more) v < length seen
number-within v [] more h = cc
number-within v (x ∷ seen) more h = by (nat_eq v x) h (number-within v seen more)
  where
    by : (b : Bool) → (b || list_any (nat_eq v) seen) ≡ true → (list_any (nat_eq v) seen ≡ true → number_of (seen ++ more) v < length seen) → cond b 0 (1 + number_of (seen ++ more) v) < suc (length seen)
    by true e i = omega arith
    by false e i = let j = i e in omega arith

-- which numbers are below
below-among : (k n : ℕ) → k < n → list_any (nat_eq k) (numbers_below n) ≡ true
below-among k zero h = absurd (omega arith)
below-among k (suc n) h =
    elim (cases_lt k n) [
      | inl l ↦ list_any-append (nat_eq k) (numbers_below n) (n ∷ []) ∙ or_left _ _ (below-among k n l)
      | inr g ↦ list_any-append (nat_eq k) (numbers_below n) (n ∷ []) ∙ or_right _ _ (same k n (omega arith))
    ]

above-absent : (k n : ℕ) → n ≤ k → list_any (nat_eq k) (numbers_below n) ≡ false
above-absent k zero h = refl
above-absent k (suc n) h = rw (list_any-append (nat_eq k) (numbers_below n) (n ∷ []), above-absent k n (omega arith)) (grind (arith, nat_tests))

length-numbers_below : (n : ℕ) → length (numbers_below n) ≡ n
length-numbers_below zero = refl
length-numbers_below (suc n) = rw (length-append (numbers_below n) (n ∷ []), length-numbers_below n) (omega arith)

-- numbered by their place among all, the variables first occur in the order of their numbers
numbered-fold : (xs seen : List ℕ) →
    fold with_number (numbers_below (length seen)) (map (number_of (fold with_number seen xs)) xs) ≡ numbers_below (length (fold with_number seen xs))
numbered-fold [] seen = refl
numbered-fold (v ∷ xs) seen = by (list_any (nat_eq v) seen) refl (numbered-fold xs seen) (numbered-fold xs (seen ++ v ∷ []))
  where
    by : (b : Bool) → list_any (nat_eq v) seen ≡ b →
        fold with_number (numbers_below (length seen)) (map (number_of (fold with_number seen xs)) xs) ≡ numbers_below (length (fold with_number seen xs)) →
        fold with_number (numbers_below (length (seen ++ v ∷ []))) (map (number_of (fold with_number (seen ++ v ∷ []) xs)) xs) ≡ numbers_below (length (fold with_number (seen ++ v ∷ []) xs)) →
        fold with_number (with_number (numbers_below (length seen)) (number_of (fold with_number (cond b seen (seen ++ v ∷ [])) xs) v)) (map (number_of (fold with_number (cond b seen (seen ++ v ∷ [])) xs)) xs)
        ≡ numbers_below (length (fold with_number (cond b seen (seen ++ v ∷ [])) xs))
    by true e i j =
        let front = fold-prefix xs seen in
        let inside : number_of (fold with_number seen xs) v < length seen = subst (λ l. number_of l v < length seen) (sym front.1) (number-within v seen front.0 e) in
        rw (below-among (number_of (fold with_number seen xs) v) (length seen) inside) i
    by false e i j =
        let front = fold-prefix xs (seen ++ v ∷ []) in
        let place : number_of (fold with_number (seen ++ v ∷ []) xs) v ≡ length seen = ap (λ l. number_of l v) (front.1 ∙ append_assoc seen (v ∷ []) front.0) ∙ number-at v seen front.0 e in
        let longer : length (seen ++ v ∷ []) ≡ suc (length seen) = length-append seen (v ∷ []) ∙ omega arith in
        rw (place, above-absent (length seen) (length seen) (omega arith)) (subst (λ n. fold with_number (numbers_below n) (map (number_of (fold with_number (seen ++ v ∷ []) xs)) xs) ≡ numbers_below (length (fold with_number (seen ++ v ∷ []) xs))) longer j)

-- the number of a variable is its place among the noted ones
pub number_of-place : (v k : ℕ) (vs : List ℕ) → Some k ≡ position (nat_eq v) vs → k ≡ number_of vs v
number_of-place v k vs h = found (nat_lt (position_or_len (nat_eq v) vs) (length vs)) h ∙ sym (is_position_or_len (λ ws. number_of ws v) (nat_eq v) refl (λ x xs. refl) vs)
  where
    found : (b : Bool) → Some k ≡ cond b (Some (position_or_len (nat_eq v) vs)) None → k ≡ position_or_len (nat_eq v) vs
    found true e = cc
    found false e = cc

number_of-le : (v : ℕ) (vs : List ℕ) → number_of vs v ≤ length vs
number_of-le v [] = omega arith
number_of-le v (w ∷ vs) = by (nat_eq v w) (number_of-le v vs)
  where
    by : (b : Bool) → number_of vs v ≤ length vs → cond b 0 (1 + number_of vs v) ≤ suc (length vs)
    by true h = omega arith
    by false h = omega arith

-- and that of one that isn't noted is how many are
pub number_of-absent : (v : ℕ) (vs : List ℕ) → None ≡ position (nat_eq v) vs → length vs ≡ number_of vs v
number_of-absent v vs h =
    let same : number_of vs v ≡ position_or_len (nat_eq v) vs = is_position_or_len (λ ws. number_of ws v) (nat_eq v) refl (λ x xs. refl) vs in
    let below = number_of-le v vs in
    let past : nat_lt (position_or_len (nat_eq v) vs) (length vs) ≡ false = none (nat_lt (position_or_len (nat_eq v) vs) (length vs)) h in
    grind (arith, nat_tests)
  where
    none : (b : Bool) → None ≡ cond b (Some (position_or_len (nat_eq v) vs)) None → b ≡ false
    none true e = cc
    none false e = refl

-- a renamed scheme is numbered
pub numbered-renamed : (t u : Term) (a b : Term) →
    a ≡ substitute (λ v. variable (number_of (first_occurrences (variables t ++ variables u)) v)) t →
    b ≡ substitute (λ v. variable (number_of (first_occurrences (variables t ++ variables u)) v)) u →
    first_occurrences (variables a ++ variables b) ≡ numbers_below (length (first_occurrences (variables t ++ variables u)))
numbered-renamed t u a b p q =
    let f : ℕ → ℕ = number_of (first_occurrences (variables t ++ variables u)) in
    let e : variables a ≡ map f (variables t) = ap variables p ∙ variables-renamed f t in
    let d : variables b ≡ map f (variables u) = ap variables q ∙ variables-renamed f u in
    let g : variables a ++ variables b ≡ map f (variables t ++ variables u) = ap (λ l. l ++ variables b) e ∙ ap (λ l. map f (variables t) ++ l) d ∙ sym (map-append f (variables t) (variables u)) in
    ap first_occurrences g ∙ numbered-fold (variables t ++ variables u) []

-- what is noted after both types
pub noted-both : (t u : Term) (none some all : List ℕ) → none ≡ [] → some ≡ fold with_number none (variables t) → all ≡ fold with_number some (variables u) → all ≡ first_occurrences (variables t ++ variables u)
noted-both t u none some all p q r =
    r ∙ ap (λ l. fold with_number l (variables u)) (q ∙ ap (λ l. fold with_number l (variables t)) p) ∙ sym (fold-append with_number [] (variables t) (variables u))

-- what was noted stays noted
noted-kept : (v : ℕ) (xs seen : List ℕ) → list_any (nat_eq v) seen ≡ true → list_any (nat_eq v) (fold with_number seen xs) ≡ true
noted-kept v xs seen h =
    let front = fold-prefix xs seen in
    ap (list_any (nat_eq v)) front.1 ∙ list_any-append (nat_eq v) seen front.0 ∙ or_left _ _ h

same_number : (v x : ℕ) → nat_eq v x ≡ true → v ≡ x
same_number v x h = grind (arith, nat_tests)

noted-here : (v x : ℕ) (seen : List ℕ) → nat_eq v x ≡ true → list_any (nat_eq v) (with_number seen x) ≡ true
noted-here v x seen h = by (list_any (nat_eq x) seen) refl
  where
    by : (b : Bool) → list_any (nat_eq x) seen ≡ b → list_any (nat_eq v) (cond b seen (seen ++ x ∷ [])) ≡ true
    by true e = ap (λ k. list_any (nat_eq k) seen) (same_number v x h) ∙ e
    by false e = list_any-append (nat_eq v) seen (x ∷ []) ∙ or_right _ _ (or_left _ _ h)

-- each number of a list is noted
noted-all : (v : ℕ) (xs seen : List ℕ) → list_any (nat_eq v) xs ≡ true → list_any (nat_eq v) (fold with_number seen xs) ≡ true
noted-all v [] seen h = cc
noted-all v (x ∷ xs) seen h = by (nat_eq v x) refl h (noted-all v xs (with_number seen x))
  where
    by : (b : Bool) → nat_eq v x ≡ b → (b || list_any (nat_eq v) xs) ≡ true → (list_any (nat_eq v) xs ≡ true → list_any (nat_eq v) (fold with_number (with_number seen x) xs) ≡ true) →
        list_any (nat_eq v) (fold with_number (with_number seen x) xs) ≡ true
    by true e i j = noted-kept v xs (with_number seen x) (noted-here v x seen e)
    by false e i j = j i

among-below : (v n : ℕ) → list_any (nat_eq v) (numbers_below n) ≡ true → v < n
among-below v n h =
    elim (cases_lt v n) [
      | inl l ↦ l
      | inr g ↦ absurd (false≢true (sym (above-absent v n g) ∙ h))
    ]

all-below : (n : ℕ) (t : Term) → ((v : ℕ) → list_any (nat_eq v) (variables t) ≡ true → v < n) → IsBelow n t
all-below n int h = tt
all-below n bool h = tt
all-below n char h = tt
all-below n (variable v) h = h v (same v v refl)
all-below n (seq_of t) h = all-below n t h
all-below n (pair_of t u) h = (
  all-below n t (λ v i. h v (list_any-append (nat_eq v) (variables t) (variables u) ∙ or_left _ _ i)),
  all-below n u (λ v i. h v (list_any-append (nat_eq v) (variables t) (variables u) ∙ or_right _ _ i)),
)
all-below n (named k) h = tt

-- each variable of a scheme that is numbered is below the number of its classes
pub numbered-below : (t u : Term) (n : ℕ) → first_occurrences (variables t ++ variables u) ≡ numbers_below n → IsBelow n t × IsBelow n u
numbered-below t u n e =
    let all : (v : ℕ) → list_any (nat_eq v) (variables t ++ variables u) ≡ true → v < n = λ v i. among-below v n (sym (ap (list_any (nat_eq v)) e) ∙ noted-all v (variables t ++ variables u) [] i) in (
      all-below n t (λ v i. all v (list_any-append (nat_eq v) (variables t) (variables u) ∙ or_left _ _ i)),
      all-below n u (λ v i. all v (list_any-append (nat_eq v) (variables t) (variables u) ∙ or_right _ _ i)),
    )
