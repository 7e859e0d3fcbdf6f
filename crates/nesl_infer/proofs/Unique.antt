-- A function has one most general type, its variables numbered in order of first occurrence.
use Rattle.std.proofs.Common.{◌≡◌, ℕ, zero, suc, ◌+◌, ◌<◌, ◌≤◌, Bool, true, false, ◌||◌, List, [], ◌∷◌, ◌++◌, length, fold, map, nat_eq, cond, refl, sym, ap, subst, ◌∙◌, append_assoc, append-nil, length-append, inl, inr, arith}
use Rattle.std.specs.Prelude.{◌⊎◌}
use Rattle.std.proofs.lemmas.List.{map-append}
use Rattle.std.proofs.lemmas.Bool.{cases_lt, false≢true}
use Rattle.std.proofs.lemmas.Bool.Decides.{nat_tests}
use Rattle.std.proofs.lemmas.List.Folds.{list_any-append}
use Rattle.std.specs.List.{list_any}
use Rattle.nesl_types.specs.declared.classes.Class.{Class}
use Rattle.nesl_types.specs.declared.classes.Class.TheVariants.{Any, Ordinal, Number, Logical}
use Rattle.nesl_types_shared.specs.Term.{Term, int, bool, char, variable, seq_of, pair_of, named}
use Rattle.nesl_types.specs.Class.{IsIn, IsWithin, class_at}
use Rattle.nesl_types_shared.specs.Substitution.{substitute}
use Rattle.nesl_types_shared.specs.Numbering.{variables, with_number, first_occurrences, numbers_below, number_of}
use Rattle.nesl_builtins.specs.FunctionTypes.{FunctionType}
use Rattle.nesl_infer_rules.specs.Principal.{IsPrincipalFunction, IsNumbered}

-- each number of a list has a property
abbrev Each : (ℕ → Type 0) → List ℕ → Type 0
Each P [] = Unit {0}
Each P (v ∷ vs) = P v × Each P vs

each-append : (P : ℕ → Type 0) (xs ys : List ℕ) → Each P xs → Each P ys → Each P (xs ++ ys)
each-append P [] ys h k = k
each-append P (x ∷ xs) ys h k = (h.0, each-append P xs ys h.1 k)

each-split : (P : ℕ → Type 0) (xs ys : List ℕ) → Each P (xs ++ ys) → Each P xs × Each P ys
each-split P [] ys h = (tt, h)
each-split P (x ∷ xs) ys h = let k = each-split P xs ys h.1 in ((h.0, k.0), k.1)

each-as : (P Q : ℕ → Type 0) → ((v : ℕ) → P v → Q v) → (xs : List ℕ) → Each P xs → Each Q xs
each-as P Q f [] h = tt
each-as P Q f (x ∷ xs) h = (f x h.0, each-as P Q f xs h.1)

each-and : (P Q : ℕ → Type 0) (xs : List ℕ) → Each P xs → Each Q xs → Each (λ v. P v × Q v) xs
each-and P Q [] h k = tt
each-and P Q (x ∷ xs) h k = ((h.0, k.0), each-and P Q xs h.1 k.1)

each-with : (P : ℕ → Type 0) (seen : List ℕ) (v : ℕ) → Each P seen → P v → Each P (with_number seen v)
each-with P seen v h k = by (list_any (nat_eq v) seen)
  where
    by : (b : Bool) → Each P (cond b seen (seen ++ v ∷ []))
    by true = h
    by false = each-append P seen (v ∷ []) h (k, tt)

each-fold : (P : ℕ → Type 0) (xs seen : List ℕ) → Each P seen → Each P xs → Each P (fold with_number seen xs)
each-fold P [] seen h k = h
each-fold P (x ∷ xs) seen h k = each-fold P xs (with_number seen x) (each-with P seen x h k.0) k.1

each-below : (P : ℕ → Type 0) (n v : ℕ) → v < n → Each P (numbers_below n) → P v
each-below P zero v l h = absurd (omega arith)
each-below P (suc n) v l h =
    let k = each-split P (numbers_below n) (n ∷ []) h in
    elim (cases_lt v n) [
      | inl i ↦ each-below P n v i k.0
      | inr g ↦ let same : n ≡ v = omega arith in subst P same k.1.0
    ]

-- of numbers that are below others
or_left : (a b : Bool) → a ≡ true → (a || b) ≡ true
or_left true b h = refl
or_left false b h = cc

or_right : (a b : Bool) → b ≡ true → (a || b) ≡ true
or_right true b h = refl
or_right false b h = h

same : (k n : ℕ) → k ≡ n → (nat_eq k n || false) ≡ true
same k n e = grind (arith, nat_tests)

nat_eq-self : (n : ℕ) → nat_eq n n ≡ true
nat_eq-self n = grind (arith, nat_tests)

below-among : (k n : ℕ) → k < n → list_any (nat_eq k) (numbers_below n) ≡ true
below-among k zero h = absurd (omega arith)
below-among k (suc n) h =
    elim (cases_lt k n) [
      | inl l ↦ list_any-append (nat_eq k) (numbers_below n) (n ∷ []) ∙ or_left _ _ (below-among k n l)
      | inr g ↦ list_any-append (nat_eq k) (numbers_below n) (n ∷ []) ∙ or_right _ _ (same k n (omega arith))
    ]

above-absent : (k n : ℕ) → n ≤ k → list_any (nat_eq k) (numbers_below n) ≡ false
above-absent k zero h = refl
above-absent k (suc n) h = rw (list_any-append (nat_eq k) (numbers_below n) (n ∷ []), above-absent k n (omega arith)) (grind (arith, nat_tests))

length-numbers_below : (n : ℕ) → length (numbers_below n) ≡ n
length-numbers_below zero = refl
length-numbers_below (suc n) = rw (length-append (numbers_below n) (n ∷ []), length-numbers_below n) (omega arith)

fold-prefix : (xs seen : List ℕ) → (more : List ℕ) × (fold with_number seen xs ≡ seen ++ more)
fold-prefix [] seen = ([], sym (append-nil seen))
fold-prefix (v ∷ xs) seen =
    let kept = fold-prefix xs seen in
    let added = fold-prefix xs (seen ++ v ∷ []) in
    elim (list_any (nat_eq v) seen) as (λ b. (more : List ℕ) × (fold with_number (cond b seen (seen ++ v ∷ [])) xs ≡ seen ++ more)) [
      | true ↦ kept
      | false ↦ (v ∷ added.0, added.1 ∙ append_assoc seen (v ∷ []) added.0)
    ]

number-at : (v : ℕ) (seen more : List ℕ) → list_any (nat_eq v) seen ≡ false → number_of (seen ++ v ∷ more) v ≡ length seen
number-at v [] more h = rw (nat_eq-self v) refl
number-at v (x ∷ seen) more h = by (nat_eq v x) h (number-at v seen more)
  where
    by : (b : Bool) → (b || list_any (nat_eq v) seen) ≡ false → (list_any (nat_eq v) seen ≡ false → number_of (seen ++ v ∷ more) v ≡ length seen) → cond b 0 (1 + number_of (seen ++ v ∷ more) v) ≡ suc (length seen)
    by true e i = cc
    by false e i = let j = i e in omega arith

number-kept : (v : ℕ) (seen more : List ℕ) → list_any (nat_eq v) seen ≡ true → number_of (seen ++ more) v ≡ number_of seen v
number-kept v [] more h = cc
number-kept v (x ∷ seen) more h = by (nat_eq v x) h (number-kept v seen more)
  where
    by : (b : Bool) → (b || list_any (nat_eq v) seen) ≡ true → (list_any (nat_eq v) seen ≡ true → number_of (seen ++ more) v ≡ number_of seen v) → cond b 0 (1 + number_of (seen ++ more) v) ≡ cond b 0 (1 + number_of seen v)
    by true e i = refl
    by false e i = ap (λ (n : ℕ). 1 + n) (i e)

number-below : (n v : ℕ) → v < n → number_of (numbers_below n) v ≡ v
number-below zero v l = absurd (omega arith)
number-below (suc n) v l =
    elim (cases_lt v n) [
      | inl i ↦ number-kept v (numbers_below n) (n ∷ []) (below-among v n i) ∙ number-below n v i
      | inr g ↦
          let is : v ≡ n = omega arith in
          subst (λ (k : ℕ). number_of (numbers_below n ++ n ∷ []) k ≡ k) (sym is) (number-at n (numbers_below n) [] (above-absent n n (omega arith)) ∙ length-numbers_below n)
    ]

among-below : (v n : ℕ) → list_any (nat_eq v) (numbers_below n) ≡ true → v < n
among-below v n h =
    elim (cases_lt v n) [
      | inl l ↦ l
      | inr g ↦ absurd (false≢true (sym (above-absent v n g) ∙ h))
    ]

-- the number after the first k is k
next_number : (n k v : ℕ) (more : List ℕ) → k ≤ v → numbers_below n ≡ numbers_below k ++ v ∷ more → v ≡ k
next_number n k v more g e =
    let here : list_any (nat_eq v) (numbers_below n) ≡ true =
    ap (list_any (nat_eq v)) e ∙ list_any-append (nat_eq v) (numbers_below k) (v ∷ more) ∙ or_right _ _ (or_left _ _ (nat_eq-self v)) in
    sym (number-below n v (among-below v n here)) ∙ ap (λ (l : List ℕ). number_of l v) e ∙ number-at v (numbers_below k) more (above-absent v k g) ∙ length-numbers_below k

after_next : (n k v : ℕ) (vs : List ℕ) → k ≤ v → fold with_number (with_number (numbers_below k) v) vs ≡ numbers_below n → (v ≡ k) × (fold with_number (numbers_below (suc k)) vs ≡ numbers_below n)
after_next n k v vs g e =
    let new : with_number (numbers_below k) v ≡ numbers_below k ++ v ∷ [] = ap (λ (b : Bool). cond b (numbers_below k) (numbers_below k ++ v ∷ [])) (above-absent v k g) in
    let grown : fold with_number (numbers_below k ++ v ∷ []) vs ≡ numbers_below n = ap (λ (l : List ℕ). fold with_number l vs) (sym new) ∙ e in
    let front = fold-prefix vs (numbers_below k ++ v ∷ []) in
    let is : v ≡ k = next_number n k v front.0 g (sym grown ∙ front.1 ∙ append_assoc (numbers_below k) (v ∷ []) front.0) in
    (is, subst (λ (w : ℕ). fold with_number (numbers_below k ++ w ∷ []) vs ≡ numbers_below n) is grown)

-- numbers that are in order before they are renamed and after it stay the same
in_order : (r s : ℕ → ℕ) (vs : List ℕ) (k n m : ℕ) → Each (λ v. s (r v) ≡ v) vs → ((v : ℕ) → v < k → (r v ≡ v) × (s v ≡ v)) →
    fold with_number (numbers_below k) vs ≡ numbers_below n → fold with_number (numbers_below k) (map r vs) ≡ numbers_below m → Each (λ v. r v ≡ v) vs × (n ≡ m)
in_order r s [] k n m h f e d = (tt, sym (length-numbers_below n) ∙ ap length (sym e ∙ d) ∙ length-numbers_below m)
in_order r s (v ∷ vs) k n m h f e d =
    elim (cases_lt v k) [
      | inl l ↦
          let kept : (w : ℕ) → w < k → with_number (numbers_below k) w ≡ numbers_below k = λ w i. ap (λ (b : Bool). cond b (numbers_below k) (numbers_below k ++ w ∷ [])) (below-among w k i) in
          let is = (f v l).0 in
          let e2 = ap (λ (x : List ℕ). fold with_number x vs) (sym (kept v l)) ∙ e in
          let d2 = ap (λ (x : List ℕ). fold with_number x (map r vs)) (sym (kept (r v) (subst (λ (w : ℕ). w < k) (sym is) l))) ∙ d in
          let rest = in_order r s vs k n m h.1 f e2 d2 in
          ((is, rest.0), rest.1)
      | inr g ↦
          let up : k ≤ r v = high g in
          let one = after_next n k v vs g e in
          let two = after_next m k (r v) (map r vs) up d in
          let is : r v ≡ v = two.0 ∙ sym one.0 in
          let back : s k ≡ k = ap s (sym two.0) ∙ h.0 ∙ one.0 in
          let more : (w : ℕ) → w < suc k → (r w ≡ w) × (s w ≡ w) = λ w i. wider w i (ap r (sym one.0) ∙ two.0) back in
          let rest = in_order r s vs (suc k) n m h.1 more one.1 two.1 in
          ((is, rest.0), rest.1)
    ]
  where
    high : k ≤ v → k ≤ r v
    high g =
        elim (cases_lt (r v) k) [
          | inl i ↦ let low : s (r v) ≡ r v = (f (r v) i).1 in let is : s (r v) ≡ v = h.0 in absurd (omega (arith, low, is))
          | inr j ↦ j
        ]

    wider : (w : ℕ) → w < suc k → r k ≡ k → s k ≡ k → (r w ≡ w) × (s w ≡ w)
    wider w i a b =
        elim (cases_lt w k) [
          | inl l ↦ f w l
          | inr j ↦ let is : k ≡ w = omega arith in subst (λ (x : ℕ). (r x ≡ x) × (s x ≡ x)) is (a, b)
        ]

left_same : (a b c d : Term) → pair_of a b ≡ pair_of c d → a ≡ c
left_same a b c d e = cc

right_same : (a b c d : Term) → pair_of a b ≡ pair_of c d → b ≡ d
right_same a b c d e = cc

item_same : (a b : Term) → seq_of a ≡ seq_of b → a ≡ b
item_same a b e = cc

-- where types are put and put back, each variable comes back
forced : (p q : ℕ → Term) (t : Term) → substitute q (substitute p t) ≡ t → Each (λ v. substitute q (p v) ≡ variable v) (variables t)
forced p q int e = tt
forced p q bool e = tt
forced p q char e = tt
forced p q (variable v) e = (e, tt)
forced p q (seq_of t) e = forced p q t (item_same _ _ e)
forced p q (pair_of t u) e = each-append (λ v. substitute q (p v) ≡ variable v) (variables t) (variables u) (forced p q t (left_same _ _ _ _ e)) (forced p q u (right_same _ _ _ _ e))
forced p q (named n) e = tt

abbrev number_in : Term → ℕ
number_in int = 0
number_in bool = 0
number_in char = 0
number_in (variable v) = v
number_in (seq_of t) = 0
number_in (pair_of t u) = 0
number_in (named n) = 0

is_variable : (q : ℕ → Term) (v : ℕ) (x : Term) → substitute q x ≡ variable v → (x ≡ variable (number_in x)) × (number_in (q (number_in x)) ≡ v)
is_variable q v int e = absurd cc
is_variable q v bool e = absurd cc
is_variable q v char e = absurd cc
is_variable q v (variable w) e = (refl, ap number_in e)
is_variable q v (seq_of t) e = absurd cc
is_variable q v (pair_of t u) e = absurd cc
is_variable q v (named n) e = absurd cc

put-variables : (p : ℕ → Term) (t : Term) → Each (λ v. p v ≡ variable (number_in (p v))) (variables t) → variables (substitute p t) ≡ map (λ v. number_in (p v)) (variables t)
put-variables p int h = refl
put-variables p bool h = refl
put-variables p char h = refl
put-variables p (variable v) h = ap variables h.0
put-variables p (seq_of t) h = put-variables p t h
put-variables p (pair_of t u) h =
    let k = each-split (λ v. p v ≡ variable (number_in (p v))) (variables t) (variables u) h in
    ap (λ (l : List ℕ). l ++ variables (substitute p u)) (put-variables p t k.0) ∙ ap (λ (l : List ℕ). map (λ v. number_in (p v)) (variables t) ++ l) (put-variables p u k.1)
    ∙ sym (map-append (λ v. number_in (p v)) (variables t) (variables u))
put-variables p (named n) h = refl

put-kept : (p : ℕ → Term) (t : Term) → Each (λ v. p v ≡ variable v) (variables t) → substitute p t ≡ t
put-kept p int h = refl
put-kept p bool h = refl
put-kept p char h = refl
put-kept p (variable v) h = h.0
put-kept p (seq_of t) h = ap seq_of (put-kept p t h)
put-kept p (pair_of t u) h =
    let k = each-split (λ v. p v ≡ variable v) (variables t) (variables u) h in
    let e = put-kept p t k.0 in
    let d = put-kept p u k.1 in
    cc
put-kept p (named n) h = refl

-- two types that are numbered and instances of each other
one_type : (t u : Term) (n m : ℕ) (p q : ℕ → Term) → first_occurrences (variables t) ≡ numbers_below n → first_occurrences (variables u) ≡ numbers_below m →
    u ≡ substitute p t → t ≡ substitute q u → Each (λ v. p v ≡ variable v) (variables t) × (n ≡ m)
one_type t u n m p q f g e d =
    let r : ℕ → ℕ = λ v. number_in (p v) in
    let s : ℕ → ℕ = λ w. number_in (q w) in
    let vs = variables t in
    let back = ap (substitute q) (sym e) ∙ sym d in
    let all = each-as (λ v. substitute q (p v) ≡ variable v) (λ v. (p v ≡ variable (r v)) × (s (r v) ≡ v)) (λ v h. is_variable q v (p v) h) vs (forced p q t back) in
    let renamed = each-as (λ v. (p v ≡ variable (r v)) × (s (r v) ≡ v)) (λ v. p v ≡ variable (r v)) (λ v h. h.0) vs all in
    let inverse = each-as (λ v. (p v ≡ variable (r v)) × (s (r v) ≡ v)) (λ v. s (r v) ≡ v) (λ v h. h.1) vs all in
    let moved : variables u ≡ map r vs = ap variables e ∙ put-variables p t renamed in
    let k = in_order r s vs 0 n m inverse (λ v l. absurd (omega arith)) f (ap first_occurrences (sym moved) ∙ g) in (
      each-as (λ v. (p v ≡ variable (r v)) × (r v ≡ v)) (λ v. p v ≡ variable v) (λ v h. h.0 ∙ ap variable h.1) vs (each-and (λ v. p v ≡ variable (r v)) (λ v. r v ≡ v) vs renamed k.0),
      k.1,
    )

bool_is_no : (bool ≡ int) ⊎ (bool ≡ char) → ⊥
bool_is_no (inl e) = cc
bool_is_no (inr e) = cc

char_is_no : (char ≡ int) ⊎ (char ≡ bool) → ⊥
char_is_no (inl e) = cc
char_is_no (inr e) = cc

bool_is_int : bool ≡ int → ⊥
bool_is_int e = cc

char_is_int : char ≡ int → ⊥
char_is_int e = cc

one_class : (c d : Class) → IsWithin c d → IsWithin d c → c ≡ d
one_class Any Any h k = refl
one_class Any Ordinal h k = absurd (bool_is_no (h bool tt))
one_class Any Number h k = absurd (bool_is_int (h bool tt))
one_class Any Logical h k = absurd (char_is_no (h char tt))
one_class Ordinal Any h k = absurd (bool_is_no (k bool tt))
one_class Ordinal Ordinal h k = refl
one_class Ordinal Number h k = absurd (char_is_int (h char (inr refl)))
one_class Ordinal Logical h k = absurd (char_is_no (h char (inr refl)))
one_class Number Any h k = absurd (bool_is_int (k bool tt))
one_class Number Ordinal h k = absurd (char_is_int (k char (inr refl)))
one_class Number Number h k = refl
one_class Number Logical h k = absurd (bool_is_int (k bool (inr refl)))
one_class Logical Any h k = absurd (char_is_no (k char tt))
one_class Logical Ordinal h k = absurd (bool_is_no (h bool (inr refl)))
one_class Logical Number h k = absurd (bool_is_int (h bool (inr refl)))
one_class Logical Logical h k = refl

same_classes : (cs ds : List Class) → length cs ≡ length ds → ((v : ℕ) → v < length cs → class_at cs v ≡ class_at ds v) → cs ≡ ds
same_classes [] [] e h = refl
same_classes [] (d ∷ ds) e h = absurd (omega arith)
same_classes (c ∷ cs) [] e h = absurd (omega arith)
same_classes (c ∷ cs) (d ∷ ds) e h =
    let first : c ≡ d = h 0 (omega arith) in
    let rest = same_classes cs ds (omega arith) (λ v l. h (suc v) (omega arith)) in
    cc

same_function : (f g : FunctionType) → f.argument ≡ g.argument → f.result ≡ g.result → f.classes ≡ g.classes → f ≡ g
same_function f g a r c = λ i. record { argument = a i; result = r i; classes = c i }

-- two most general types of one function, both with their variables numbered
pub one_function : (F : (ℕ → Class) → Term → Term → Type 0) (f g : FunctionType) → IsNumbered f → IsNumbered g → IsPrincipalFunction F f → IsPrincipalFunction F g → f ≡ g
one_function F f g m n a b =
    let t = pair_of f.argument f.result in
    let u = pair_of g.argument g.result in
    let cs = f.classes in
    let ds = g.classes in
    let i = a.most_general (class_at ds) g.argument g.result b.fits in
    let j = b.most_general (class_at cs) f.argument f.result a.fits in
    let e : u ≡ substitute i.put t = ap (λ (x : Term). pair_of x g.result) i.argument ∙ ap (λ (x : Term). pair_of (substitute i.put f.argument) x) i.result in
    let d : t ≡ substitute j.put u = ap (λ (x : Term). pair_of x f.result) j.argument ∙ ap (λ (x : Term). pair_of (substitute j.put g.argument) x) j.result in
    let there = one_type t u (length cs) (length ds) i.put j.put m n e d in
    let back = one_type u t (length ds) (length cs) j.put i.put n m d e in
    let one : t ≡ u = sym (e ∙ put-kept i.put t there.0) in
    let returned = subst (λ (x : Term). Each (λ v. j.put v ≡ variable v) (variables x)) (sym one) back.0 in
    let both_ways = each-and (λ v. i.put v ≡ variable v) (λ v. j.put v ≡ variable v) (variables t) there.0 returned in
    let same_at = each-as (λ v. (i.put v ≡ variable v) × (j.put v ≡ variable v)) (λ v. class_at cs v ≡ class_at ds v)
    (λ v h. sym (one_class (class_at ds v) (class_at cs v) (subst (λ (x : Term). IsIn (class_at ds) (class_at cs v) x) h.0 (i.within v)) (subst (λ (x : Term). IsIn (class_at cs) (class_at ds v) x) h.1 (j.within v))))
    (variables t) both_ways in
    let all = subst (Each (λ v. class_at cs v ≡ class_at ds v)) m (each-fold (λ v. class_at cs v ≡ class_at ds v) (variables t) [] tt same_at) in
    same_function f g (left_same _ _ _ _ one) (right_same _ _ _ _ one)
    (same_classes cs ds there.1 (λ v l. each-below (λ w. class_at cs w ≡ class_at ds w) (length cs) v l all))
