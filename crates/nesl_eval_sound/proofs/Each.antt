-- What holds of each element of a list.
use Rattle.std.proofs.Common.{ℕ, zero, suc, ◌+◌, Bool, true, false, cond, List, [], ◌∷◌, ◌++◌, map, take, drop, reverse, replicate, set, Option, Some, None, slice_get, zip, unwrap_or, ℤ, unsigned_abs, nat_eq, option_map}
use Rattle.std.specs.List.{filter_map, filter, flat_map, enumerate_from, find, cons_option}
use Rattle.nesl_seqs_base.specs.Places.{elements_at, arrival}
use Rattle.nesl_seqs_base.specs.Woven.{evens, woven}
use Rattle.nesl_seqs_base.specs.Levels.{pieces}
use Rattle.nesl_seqs_base.specs.Sides.{marked}
use Rattle.nesl_seqs_base.specs.Equal.{bool_eq}
use Rattle.nesl_values.specs.Tree.{ValueTree}
use mathlib.Core.List.{reverse_aux}

abbrev pub Each : {X : Type 0} → (X → Type 0) → List X → Type 0
Each P [] = Unit {0}
Each P (x ∷ xs) = P x × Each P xs

abbrev pub Reads : {X : Type 0} → Option X → (X → Type 0) → Type 0
Reads (Some x) P = P x
Reads None P = ⊥

-- nothing, or something of which P holds
abbrev pub IfRead : {X : Type 0} → Option X → (X → Type 0) → Type 0
IfRead (Some x) P = P x
IfRead None P = Unit {0}

module _ {X : Type 0} (P : X → Type 0) where
  pub each_append : (xs ys : List X) → Each P xs → Each P ys → Each P (xs ++ ys)
  each_append [] ys h k = k
  each_append (x ∷ xs) ys h k = (h.0, each_append xs ys h.1 k)

  pub each_take : (n : ℕ) (xs : List X) → Each P xs → Each P (take n xs)
  each_take zero [] h = tt
  each_take zero (x ∷ xs) h = tt
  each_take (suc n) [] h = tt
  each_take (suc n) (x ∷ xs) h = (h.0, each_take n xs h.1)

  pub each_drop : (n : ℕ) (xs : List X) → Each P xs → Each P (drop n xs)
  each_drop zero [] h = tt
  each_drop zero (x ∷ xs) h = h
  each_drop (suc n) [] h = tt
  each_drop (suc n) (x ∷ xs) h = each_drop n xs h.1

  pub each_replicate : (n : ℕ) (x : X) → P x → Each P (replicate n x)
  each_replicate zero x h = tt
  each_replicate (suc n) x h = (h, each_replicate n x h)

  pub each_set : (xs : List X) (i : ℕ) (x : X) → P x → Each P xs → Each P (set xs i x)
  each_set [] i x p h = tt
  each_set (y ∷ xs) zero x p h = (p, h.1)
  each_set (y ∷ xs) (suc i) x p h = (h.0, each_set xs i x p h.1)

  pub each_get : (xs : List X) (i : ℕ) → Each P xs → IfRead (slice_get xs i) P
  each_get [] i h = tt
  each_get (x ∷ xs) zero h = h.0
  each_get (x ∷ xs) (suc i) h = each_get xs i h.1

  pub each_cons_option : (o : Option X) (xs : List X) → IfRead o P → Each P xs → Each P (cons_option o xs)
  each_cons_option None xs h k = k
  each_cons_option (Some x) xs h k = (h, k)

  pub each_filter_map : {Y : Type 0} (f : Y → Option X) (ys : List Y) → ((y : Y) → IfRead (f y) P) → Each P (filter_map f ys)
  each_filter_map f [] h = tt
  each_filter_map f (y ∷ ys) h = each_cons_option (f y) (filter_map f ys) (h y) (each_filter_map f ys h)

  pub each_evens : (xs : List X) → Each P xs → Each P (evens xs)
  each_evens [] h = tt
  each_evens (x ∷ []) h = h
  each_evens (x ∷ y ∷ xs) h = (h.0, each_evens xs h.1.1)

  pub each_woven : (xs ys : List X) → Each P xs → Each P ys → Each P (woven xs ys)
  each_woven [] ys h k = k
  each_woven (x ∷ xs) [] h k = h
  each_woven (x ∷ xs) (y ∷ ys) h k = (h.0, (k.0, each_woven xs ys h.1 k.1))

  pub each_pieces : (xs : List X) (zs : List ℤ) → Each P xs → Each (Each P) (pieces xs zs)
  each_pieces xs [] h = tt
  each_pieces xs (z ∷ zs) h = (each_take (unsigned_abs z) xs h, each_pieces (drop (unsigned_abs z) xs) zs (each_drop (unsigned_abs z) xs h))

  pub each_map : {Y : Type 0} (f : Y → X) (ys : List Y) → Each (λ y. P (f y)) ys → Each P (map f ys)
  each_map f [] h = tt
  each_map f (y ∷ ys) h = (h.0, each_map f ys h.1)

  pub each_of_all : {Y : Type 0} (f : Y → X) (ys : List Y) → ((y : Y) → P (f y)) → Each P (map f ys)
  each_of_all f [] h = tt
  each_of_all f (y ∷ ys) h = (h y, each_of_all f ys h)

  pub each_flat : (xss : List (List X)) → Each (Each P) xss → Each P (flat_map (λ xs. xs) xss)
  each_flat [] h = tt
  each_flat (xs ∷ xss) h = each_append xs (flat_map (λ xs. xs) xss) h.0 (each_flat xss h.1)

  pub each_reverse_onto : (xs ys : List X) → Each P xs → Each P ys → Each P (reverse_aux xs ys)
  each_reverse_onto [] ys h k = k
  each_reverse_onto (x ∷ xs) ys h k = each_reverse_onto xs (x ∷ ys) h.1 (h.0, k)

  pub each_reverse : (xs : List X) → Each P xs → Each P (reverse xs)
  each_reverse xs h = each_reverse_onto xs [] h tt

  pub each_filter : (p : X → Bool) (xs : List X) → Each P xs → Each P (filter p xs)
  each_filter p [] h = tt
  each_filter p (x ∷ xs) h = each_kept (p x) x (filter p xs) h.0 (each_filter p xs h.1)
    where
      each_kept : (b : Bool) (x : X) (xs : List X) → P x → Each P xs → Each P (cond b (x ∷ xs) xs)
      each_kept true x xs h k = (h, k)
      each_kept false x xs h k = k

  pub each_zip : {Y : Type 0} (Q : Y → Type 0) (xs : List X) (ys : List Y) → Each P xs → Each Q ys → Each (λ p. P p.0 × Q p.1) (zip xs ys)
  each_zip Q [] [] h k = tt
  each_zip Q [] (y ∷ ys) h k = tt
  each_zip Q (x ∷ xs) [] h k = tt
  each_zip Q (x ∷ xs) (y ∷ ys) h k = ((h.0, k.0), each_zip Q xs ys h.1 k.1)

  pub each_weaker : (Q : X → Type 0) (xs : List X) → ((x : X) → P x → Q x) → Each P xs → Each Q xs
  each_weaker Q [] f h = tt
  each_weaker Q (x ∷ xs) f h = (f x h.0, each_weaker Q xs f h.1)

pub each_zip_left : {X Y : Type 0} (P : X → Type 0) (xs : List X) (ys : List Y) → Each P xs → Each (λ p. P p.0) (zip xs ys)
each_zip_left P [] [] h = tt
each_zip_left P [] (y ∷ ys) h = tt
each_zip_left P (x ∷ xs) [] h = tt
each_zip_left P (x ∷ xs) (y ∷ ys) h = (h.0, each_zip_left P xs ys h.1)

pub each_zip_right : {X Y : Type 0} (P : Y → Type 0) (xs : List X) (ys : List Y) → Each P ys → Each (λ p. P p.1) (zip xs ys)
each_zip_right P [] [] h = tt
each_zip_right P [] (y ∷ ys) h = tt
each_zip_right P (x ∷ xs) [] h = tt
each_zip_right P (x ∷ xs) (y ∷ ys) h = (h.0, each_zip_right P xs ys h.1)

pub each_beside : {X : Type 0} (P : X → Type 0) (b : Bool) (xs : List X) (bs : List Bool) → Each P xs → Each P (marked b xs bs)
each_beside P b xs bs h =
    each_map P (λ p. p.0) (filter (λ p. bool_eq b p.1) (zip xs bs)) (each_filter (λ p. P p.0) (λ p. bool_eq b p.1) (zip xs bs) (each_zip_left P xs bs h))

-- the elements at places are among the elements
pub each_elements_at : {X : Type 0} (P : X → Type 0) (xs : List X) (ks : List ℕ) → Each P xs → Each P (elements_at xs ks)
each_elements_at P xs ks h = each_filter_map P (slice_get xs) ks (λ k. each_get P xs k h)

-- each element with its place
pub each_enumerated : {X : Type 0} (P : X → Type 0) (n : ℕ) (xs : List X) → Each P xs → Each (λ e. P e.1) (enumerate_from n xs)
each_enumerated P n [] h = tt
each_enumerated P n (x ∷ xs) h = (h.0, each_enumerated P (n + 1) xs h.1)

pub found_holds : {X : Type 0} (P : X → Type 0) (p : X → Bool) (xs : List X) → Each P xs → IfRead (find p xs) P
found_holds P p [] h = tt
found_holds P p (x ∷ xs) h = first P (p x) x (find p xs) h.0 (found_holds P p xs h.1)
  where
    first : {X : Type 0} (P : X → Type 0) (b : Bool) (x : X) (o : Option X) → P x → IfRead o P → IfRead (cond b (Some x) o) P
    first P true x o h k = h
    first P false x o h k = k

-- what arrives at a place is among what is put somewhere
pub arrival_holds : (P : ValueTree → Type 0) (ws : List (ℕ × ValueTree)) (k : ℕ) → Each (λ w. P w.1) ws → IfRead (arrival ws k) P
arrival_holds P ws k h = second (find (λ w. nat_eq k w.0) ws) (found_holds (λ w. P w.1) (λ w. nat_eq k w.0) ws h)
  where
    second : (o : Option (ℕ × ValueTree)) → IfRead o (λ w. P w.1) → IfRead (option_map (λ w. w.1) o) P
    second None h = tt
    second (Some w) h = h

pub read_or : {X : Type 0} (P : X → Type 0) (o : Option X) (x : X) → IfRead o P → P x → P (unwrap_or o x)
read_or P None x h k = k
read_or P (Some y) x h k = h
