-- Elements that are picked by the places that others name.
use Rattle.std.proofs.Common.{◌≡◌, ℕ, ℤ, zero, suc, pos, negsuc, ◌+◌, ◌<◌, ◌≤◌, Bool, true, false, ◌&&◌, cond, nat_lt, List, [], ◌∷◌, ◌++◌, length, map, take, drop, get_or, refl, ap, sym, ◌∙◌, arith, Option, Some, None, is_some, option_map, slice_get, Result, Ok, Err, IfOk}
use Rattle.std.specs.List.{list_all, filter_map, cons_option}
use Rattle.std.proofs.lemmas.Bool.Decides.{Decides-ltb}
use Rattle.std.proofs.lemmas.List.{take_more, drop_more, map-append, length-map}
use Rattle.std.proofs.lemmas.List.Elements.{filter_map-append}
use Rattle.std.proofs.lemmas.Option.{slice_get-map, slice_get_read}
use Rattle.nesl_scalars.specs.declared.trap.Trap.{Trap}
use Rattle.nesl_scalars.specs.declared.trap.Trap.TheVariants.{Range}
use Rattle.nesl_values.specs.Tree.{ValueTree, int, size, sizes, trees_of}
use Rattle.nesl_values.specs.Parts.{as_int}
use Rattle.nesl_values.specs.View.{tree_of}
use Rattle.nesl_values.specs.declared.value.Value.{Value}
use Rattle.nesl_seqs_base.specs.Outcome.{Outcome, gives, traps, undefined, if_there, IsGiven}
use Rattle.nesl_seqs_base.specs.Reductions.{all_of}
use Rattle.nesl_seqs_base.specs.Places.{place_in, all_name_places, places_named, at_places, place_of, places_of}
use Rattle.nesl_seqs_base.specs.Places.{elements_at}
use Rattle.nesl_seqs_base.proofs.Equality.{left_true, right_true}

pub list_all_map : {X Y : Type 0} (p : Y → Bool) (f : X → Y) (xs : List X) → list_all p (map f xs) ≡ list_all (λ x. p (f x)) xs
list_all_map p f [] = refl
list_all_map p f (x ∷ xs) = ap (λ b. p (f x) && b) (list_all_map p f xs)

-- one more index, where it names a place or not
pub places_more : {I : Type 0} (f : I → ValueTree) (n : ℕ) (is : List I) (j : ℕ) (i : I) (o : Option ℕ) → j < length is → i ≡ get_or is j i → o ≡ place_of n (f i)
    → places_of n (map f (take (j + 1) is)) ≡ places_of n (map f (take j is)) ++ cons_option o []
places_more f n is j i o h at names =
    ap (λ js. places_of n (map f js)) (take_more is j i h ∙ ap (λ x. take j is ++ x ∷ []) (sym at)) ∙ ap (places_of n) (map-append f (take j is) (i ∷ [])) ∙ filter_map-append (place_of n) (map f (take j is)) (f i ∷ []) ∙ ap (λ p. places_of n (map f (take j is)) ++ cons_option p []) (sym names)

pub picked_more : {X I : Type 0} (f : I → ValueTree) (xs : List X) (is : List I) (j : ℕ) (i : I) (k : ℕ) (x : X) → j < length is → i ≡ get_or is j i → Some k ≡ place_of (length xs) (f i) → k < length xs → x ≡ get_or xs k x
    → elements_at xs (places_of (length xs) (map f (take (j + 1) is))) ≡ elements_at xs (places_of (length xs) (map f (take j is))) ++ x ∷ []
picked_more f xs is j i k x h at names within there =
    ap (elements_at xs) (places_more f (length xs) is j i (Some k) h at names) ∙ filter_map-append (slice_get xs) (places_of (length xs) (map f (take j is))) (k ∷ []) ∙ ap (λ o. elements_at xs (places_of (length xs) (map f (take j is))) ++ cons_option o []) (slice_get_read xs (length xs) k x refl within there)

pub held_more : {X I : Type 0} (f : I → ValueTree) (xs : List X) (is : List I) (j : ℕ) (i : I) (k : ℕ) (x : X) (old new : List X) → j < length is → i ≡ get_or is j i → Some k ≡ place_of (length xs) (f i) → k < length xs → x ≡ get_or xs k x
    → old ≡ elements_at xs (places_of (length xs) (map f (take j is))) → new ≡ old ++ x ∷ [] → new ≡ elements_at xs (places_of (length xs) (map f (take (j + 1) is)))
held_more f xs is j i k x old new h at names within there before push =
    push ∙ ap (λ ys. ys ++ x ∷ []) before ∙ sym (picked_more f xs is j i k x h at names within there)

pub picked_same : {X I : Type 0} (f : I → ValueTree) (xs : List X) (is : List I) (j : ℕ) (i : I) → j < length is → i ≡ get_or is j i → None ≡ place_of (length xs) (f i)
    → elements_at xs (places_of (length xs) (map f (take (j + 1) is))) ≡ elements_at xs (places_of (length xs) (map f (take j is)))
picked_same f xs is j i h at names =
    ap (elements_at xs) (places_more f (length xs) is j i None h at names) ∙ filter_map-append (slice_get xs) (places_of (length xs) (map f (take j is))) [] ∙ none_more (elements_at xs (places_of (length xs) (map f (take j is))))
  where
    none_more : {Y : Type 0} (ys : List Y) → ys ++ [] ≡ ys
    none_more [] = refl
    none_more (y ∷ ys) = ap (λ zs. y ∷ zs) (none_more ys)

-- the elements that are still to come
pub rest_places : {I : Type 0} (f : I → ValueTree) (n : ℕ) (is : List I) (j : ℕ) (i : I) (o : Option ℕ) → j < length is → i ≡ get_or is j i → o ≡ place_of n (f i)
    → places_of n (map f (drop j is)) ≡ cons_option o (places_of n (map f (drop (j + 1) is)))
rest_places f n is j i o h at names =
    ap (λ js. places_of n (map f js)) (drop_more is j i h ∙ ap (λ x. x ∷ drop (j + 1) is) (sym at)) ∙ ap (λ p. cons_option p (places_of n (map f (drop (j + 1) is)))) (sym names)

pub picked_rest : {X I : Type 0} (f : I → ValueTree) (xs : List X) (is : List I) (j : ℕ) (i : I) (k : ℕ) (x : X) → j < length is → i ≡ get_or is j i → Some k ≡ place_of (length xs) (f i) → k < length xs → x ≡ get_or xs k x
    → elements_at xs (places_of (length xs) (map f (drop j is))) ≡ x ∷ elements_at xs (places_of (length xs) (map f (drop (j + 1) is)))
picked_rest f xs is j i k x h at names within there =
    ap (elements_at xs) (rest_places f (length xs) is j i (Some k) h at names) ∙ ap (λ o. cons_option o (elements_at xs (places_of (length xs) (map f (drop (j + 1) is))))) (slice_get_read xs (length xs) k x refl within there)

pub picked_rest_same : {X I : Type 0} (f : I → ValueTree) (xs : List X) (is : List I) (j : ℕ) (i : I) → j < length is → i ≡ get_or is j i → None ≡ place_of (length xs) (f i)
    → elements_at xs (places_of (length xs) (map f (drop j is))) ≡ elements_at xs (places_of (length xs) (map f (drop (j + 1) is)))
picked_rest_same f xs is j i h at names = ap (elements_at xs) (rest_places f (length xs) is j i None h at names)

pub viewed_more : {X Y I : Type 0} (f : I → ValueTree) (e : Y → ValueTree) (v : X → ValueTree) (xs : List X) (is : List I) (j : ℕ) (i : I) (k : ℕ) (x : X) (old new : List Y) (y : Y) → j < length is → i ≡ get_or is j i → Some k ≡ place_of (length xs) (f i) → k < length xs → x ≡ get_or xs k x
    → map e old ≡ map v (elements_at xs (places_of (length xs) (map f (take j is)))) → new ≡ old ++ y ∷ [] → e y ≡ v x
    → map e new ≡ map v (elements_at xs (places_of (length xs) (map f (take (j + 1) is))))
viewed_more f e v xs is j i k x old new y h at names within there before push is_copy =
    ap (map e) push ∙ map-append e old (y ∷ []) ∙ ap (λ ts. ts ++ e y ∷ []) before ∙ ap (λ t. map v (elements_at xs (places_of (length xs) (map f (take j is)))) ++ t ∷ []) is_copy
    ∙ sym (ap (map v) (picked_more f xs is j i k x h at names within there) ∙ map-append v (elements_at xs (places_of (length xs) (map f (take j is)))) (x ∷ []))

one_seen : {X : Type 0} (leaf : X → ValueTree) (o : Option X) (xs : List X) (ts : List ValueTree) → map leaf xs ≡ ts → map leaf (cons_option o xs) ≡ cons_option (option_map leaf o) ts
one_seen leaf None xs ts h = h
one_seen leaf (Some x) xs ts h = ap (λ us. leaf x ∷ us) h

-- what is seen in the elements at places are the elements at these places of what is seen
elements_seen : {X : Type 0} (leaf : X → ValueTree) (xs : List X) (ks : List ℕ) → map leaf (elements_at xs ks) ≡ elements_at (map leaf xs) ks
elements_seen leaf xs [] = refl
elements_seen leaf xs (k ∷ ks) = one_seen leaf (slice_get xs k) (elements_at xs ks) _ (elements_seen leaf xs ks) ∙ ap (λ o. cons_option o (elements_at (map leaf xs) ks)) (sym (slice_get-map leaf xs k))

pub picked_seen : {X : Type 0} (leaf : X → ValueTree) (xs : List X) (is : List ValueTree) → map leaf (elements_at xs (places_of (length xs) is)) ≡ elements_at (map leaf xs) (places_of (length (map leaf xs)) is)
picked_seen leaf xs is = elements_seen leaf xs (places_of (length xs) is) ∙ ap (λ n. elements_at (map leaf xs) (places_of n is)) (sym (length-map xs leaf))

-- a place that is named is within
pub place_within : (n : ℕ) (z : ℤ) (k : ℕ) → place_in n z ≡ Some k → k < n
place_within n (pos i) k h = by_test (nat_lt i n) refl h
  where
    by_test : (b : Bool) → nat_lt i n ≡ b → cond b (Some i) None ≡ Some k → k < n
    by_test true e p =
        let same : i ≡ k = cc p in
        omega (arith, (Decides-ltb i n).0 e)
    by_test false e p = absurd (cc p)
place_within n (negsuc i) k h = absurd (cc h)

-- leaves that are picked
abbrev pub AreLeaves : List ValueTree → Type 0
AreLeaves ts = (k : ℕ) → k < length ts → (t : ValueTree) × (slice_get ts k ≡ Some t) × (size t ≡ 1)

pub are_leaves : {X : Type 0} (leaf : X → ValueTree) → ((x : X) → size (leaf x) ≡ 1) → (xs : List X) → AreLeaves (map leaf xs)
are_leaves leaf one [] k h = absurd (omega arith)
are_leaves leaf one (x ∷ xs) zero h = (leaf x, refl, one x)
are_leaves leaf one (x ∷ xs) (suc k) h = are_leaves leaf one xs k (omega arith)

pub picked_leaves : {I : Type 0} (f : I → ValueTree) (ts : List ValueTree) → AreLeaves ts → (is : List I) → list_all (λ i. is_some (place_of (length ts) (f i))) is ≡ true → sizes (trees_of (elements_at ts (places_of (length ts) (map f is)))) ≡ length is
picked_leaves f ts leaves [] h = refl
picked_leaves f ts leaves (i ∷ is) h =
    let rest : sizes (trees_of (elements_at ts (places_of (length ts) (map f is)))) ≡ length is = picked_leaves f ts leaves is (right_true (is_some (place_of (length ts) (f i))) _ h) in
    one_more (f i) (place_of (length ts) (f i)) refl (left_true (is_some (place_of (length ts) (f i))) _ h) rest
  where
    one_more : (t : ValueTree) (o : Option ℕ) → place_of (length ts) t ≡ o → is_some o ≡ true → sizes (trees_of (elements_at ts (places_of (length ts) (map f is)))) ≡ length is
        → sizes (trees_of (elements_at ts (cons_option o (places_of (length ts) (map f is))))) ≡ suc (length is)
    one_more t None e p rest = absurd (cc p)
    one_more (int z) (Some k) e p rest =
        let there = leaves k (place_within (length ts) z k e) in
        let next : elements_at ts (k ∷ places_of (length ts) (map f is)) ≡ there.0 ∷ elements_at ts (places_of (length ts) (map f is)) = ap (λ o. cons_option o (elements_at ts (places_of (length ts) (map f is)))) there.1 in
        rw next (omega (arith, there.2, rest))
    one_more t (Some k) e p rest = absurd (cc e)

by_rest : (z : ℤ) (ts : List ValueTree) (zs : List ℤ) (o : Option (List ℤ)) → ((xs : List ℤ) → all_of as_int ts ≡ Some xs → ts ≡ map int xs) → all_of as_int ts ≡ o → option_map (λ xs. z ∷ xs) o ≡ Some zs → int z ∷ ts ≡ map int zs
by_rest z ts zs None rest e p = absurd (cc p)
by_rest z ts zs (Some xs) rest e p =
    let same : z ∷ xs ≡ zs = cc p in
    ap (λ us. int z ∷ us) (rest xs e) ∙ ap (map int) same

-- elements of which each names a place are numbers
pub are_ints : (ts : List ValueTree) (zs : List ℤ) → all_of as_int ts ≡ Some zs → ts ≡ map int zs
are_ints [] zs h =
    let none : [] ≡ zs = cc h in
    ap (map int) none
are_ints (int z ∷ ts) zs h = by_rest z ts zs (all_of as_int ts) (λ xs e. are_ints ts xs e) refl h
are_ints (t ∷ ts) zs h = absurd (cc h)

places_seen : (n : ℕ) (zs : List ℤ) → places_of n (map int zs) ≡ places_named n zs
places_seen n [] = refl
places_seen n (z ∷ zs) = ap (cons_option (place_in n z)) (places_seen n zs)

names_seen : (n : ℕ) (zs : List ℤ) → list_all (λ t. is_some (place_of n t)) (map int zs) ≡ all_name_places n zs
names_seen n zs = list_all_map (λ t. is_some (place_of n t)) int zs

all_ints : (n : ℕ) (ts : List ValueTree) → list_all (λ t. is_some (place_of n t)) ts ≡ true → (zs : List ℤ) × (all_of as_int ts ≡ Some zs)
all_ints n [] h = ([], refl)
all_ints n (int z ∷ ts) h =
    let rest = all_ints n ts (right_true (is_some (place_in n z)) _ h) in
    (z ∷ rest.0, ap (option_map (λ xs. z ∷ xs)) rest.1)
all_ints n (t ∷ ts) h = absurd (cc h)

pub given_all : {I : Type 0} (n : ℕ) (f : I → ValueTree) (is : List I) (h : List ℕ → Outcome) → list_all (λ i. is_some (place_of n (f i))) is ≡ true
    → if_there (all_of as_int (map f is)) (λ zs. at_places n zs h) ≡ h (places_of n (map f is))
given_all n f is h named =
    let seen : list_all (λ t. is_some (place_of n t)) (map f is) ≡ true = list_all_map (λ t. is_some (place_of n t)) f is ∙ named in
    let zs = (all_ints n (map f is) seen).0 in
    let ints : all_of as_int (map f is) ≡ Some zs = (all_ints n (map f is) seen).1 in
    let same : map f is ≡ map int zs = are_ints (map f is) zs ints in
    let all : all_name_places n zs ≡ true = sym (names_seen n zs) ∙ ap (list_all (λ t. is_some (place_of n t))) (sym same) ∙ seen in
    ap (λ o. if_there o (λ ys. at_places n ys h)) ints ∙ ap (λ b. cond b (h (places_named n zs)) (traps Range)) all ∙ ap h (sym (places_seen n zs) ∙ ap (places_of n) (sym same))

-- the fault is the outcome, or there is some fault since the outcome is undefined
abbrev pub IsRefused : Outcome → Trap → Type 0
IsRefused (gives t) e = ⊥
IsRefused (traps d) e = e ≡ d
IsRefused undefined e = Unit {0}

pub refused : {I : Type 0} (n : ℕ) (f : I → ValueTree) (is : List I) (h : List ℕ → Outcome) → list_all (λ i. is_some (place_of n (f i))) is ≡ false
    → IsRefused (if_there (all_of as_int (map f is)) (λ zs. at_places n zs h)) Range
refused n f is h named = by_ints (all_of as_int (map f is)) refl
  where
    by_ints : (o : Option (List ℤ)) → all_of as_int (map f is) ≡ o → IsRefused (if_there o (λ zs. at_places n zs h)) Range
    by_ints None e = tt
    by_ints (Some zs) e =
        let some : all_name_places n zs ≡ false = sym (names_seen n zs) ∙ ap (list_all (λ t. is_some (place_of n t))) (sym (are_ints (map f is) zs e)) ∙ list_all_map (λ t. is_some (place_of n t)) f is ∙ named in
        rw some refl

-- what is given is not refused
pub not_given : (o : Outcome) (e : Trap) → IsGiven o → IsRefused o e → ⊥
not_given (gives t) e p q = q
not_given (traps d) e p q = p
not_given undefined e p q = p

pub length_found : {X Y : Type 0} (f : X → Option Y) (xs : List X) → length (filter_map f xs) ≤ length xs
length_found f [] = omega arith
length_found f (x ∷ xs) = one_more (f x) (filter_map f xs) (length xs) (length_found f xs)
  where
    one_more : {Z : Type 0} (o : Option Z) (ys : List Z) (n : ℕ) → length ys ≤ n → length (cons_option o ys) ≤ suc n
    one_more None ys n h = omega arith
    one_more (Some y) ys n h = omega arith

pub place_of_within : (n : ℕ) (t : ValueTree) (k : ℕ) → place_of n t ≡ Some k → k < n
place_of_within n (int z) k h = place_within n z k h
place_of_within n t k h = absurd (cc h)

-- a value that is the tree that an outcome gives
pub told : {A E : Type 0} (r : Result (Value A) E) (o : Outcome) (t : ValueTree) → o ≡ gives t → IfOk r (λ v. tree_of v ≡ t) → IfOk r (λ v. o ≡ gives (tree_of v))
told (Ok v) o t is h = is ∙ ap gives (sym h)
told (Err e) o t is h = tt
