-- A reader of the front of a stream.
use Rattle.std.proofs.Common.{◌≡◌, ℕ, ◌+◌, ◌<◌, ◌≤◌, zero, suc, List, [], ◌∷◌, ◌++◌, true, false, cond, Option, Some, None, length, take, drop, slice_index, refl, sym, ap, ◌∙◌, subst, arith, add-one, append_assoc, option_map}
use Rattle.std.specs.Io.KnownBytes.{Consumes, Keeps, IsAtEnd}
use Rattle.std.proofs.lemmas.List.{take_all, length-take}
use Rattle.nesl_service.specs.declared.opening.Opening.{Opening}
use Rattle.nesl_service.specs.Opening.{front_of, is_refused, opening_after}

-- one byte more of the front
front_step : (o : Opening) (b : ℕ) (bs : List ℕ) → is_refused o ≡ false → front_of o (b ∷ bs) ≡ b ∷ front_of (opening_after o b) bs
front_step o b bs e = ap (λ x. cond x [] (b ∷ front_of (opening_after o b) bs)) e

-- nothing belongs to the front any more
pub front_over : (o : Opening) (bytes : List ℕ) → is_refused o ≡ true → front_of o bytes ≡ []
front_over o [] e = refl
front_over o (b ∷ bs) e = ap (λ x. cond x [] (b ∷ front_of (opening_after o b) bs)) e

cut_at : (bytes : List ℕ) (i : ℕ) → i < length bytes → (take (suc i) bytes ≡ take i bytes ++ slice_index bytes i ∷ []) × (drop i bytes ≡ slice_index bytes i ∷ drop (suc i) bytes)
cut_at [] i h = absurd (omega (arith, h))
cut_at (b ∷ bs) zero h = (refl, refl)
cut_at (b ∷ bs) (suc i) h = let r = cut_at bs i (omega (arith, h)) in (ap (λ x. b ∷ x) r.0, r.1)

drop_all : (i : ℕ) (bytes : List ℕ) → length bytes ≤ i → drop i bytes ≡ []
drop_all zero [] h = refl
drop_all zero (b ∷ bs) h = absurd (omega (arith, h))
drop_all (suc i) [] h = refl
drop_all (suc i) (b ∷ bs) h = drop_all i bs (omega (arith, h))

module _ (first o : Opening) (bytes : List ℕ) (i : ℕ) (f : (rest : List ℕ) → front_of first (bytes ++ rest) ≡ take i bytes ++ front_of o (drop i bytes ++ rest)) where
  -- the front reaches over one byte more
  front_by_one : i < length bytes → is_refused o ≡ false → (rest : List ℕ) → front_of first (bytes ++ rest) ≡ take (suc i) bytes ++ front_of (opening_after o (slice_index bytes i)) (drop (suc i) bytes ++ rest)
  front_by_one h e rest =
      let c = cut_at bytes i h in
      let b = slice_index bytes i in
      let more = front_of (opening_after o b) (drop (suc i) bytes ++ rest) in
      f rest ∙ ap (λ x. take i bytes ++ front_of o (x ++ rest)) c.1 ∙ ap (λ x. take i bytes ++ x) (front_step o b (drop (suc i) bytes ++ rest) e) ∙ sym (append_assoc (take i bytes) (b ∷ []) more) ∙ ap (λ x. x ++ more) (sym c.0)

  pub front_more : (b : ℕ) (o' : Opening) → i < length bytes → is_refused o ≡ false → b ≡ slice_index bytes i → o' ≡ opening_after o b → (rest : List ℕ) → front_of first (bytes ++ rest) ≡ take (i + 1) bytes ++ front_of o' (drop (i + 1) bytes ++ rest)
  front_more b o' h e s t rest =
      front_by_one h e rest ∙ ap (λ x. take (suc i) bytes ++ front_of x (drop (suc i) bytes ++ rest)) (sym (t ∙ ap (opening_after o) s)) ∙ ap (λ k. take k bytes ++ front_of o' (drop k bytes ++ rest)) (sym (add-one i))

  -- it reaches over all of these bytes
  pub front_whole : length bytes ≤ i → (rest : List ℕ) → front_of first (bytes ++ rest) ≡ take (length bytes) bytes ++ front_of o rest
  front_whole h rest = f rest ∙ ap (λ x. take i bytes ++ front_of o (x ++ rest)) (drop_all i bytes h) ∙ ap (λ x. x ++ front_of o rest) (take_all i bytes h ∙ sym (take_all (length bytes) bytes (omega arith)))

-- the front ends with these bytes
pub front_ends : (first o : Opening) (bytes taken left : List ℕ) → is_refused o ≡ true → ((rest : List ℕ) → front_of first (bytes ++ rest) ≡ taken ++ front_of o (left ++ rest)) → (rest : List ℕ) → front_of first (bytes ++ rest) ≡ taken ++ front_of o rest
front_ends first o bytes taken left e f rest = f rest ∙ ap (λ x. taken ++ x) (front_over o (left ++ rest) e ∙ sym (front_over o rest e))

take_shorter : (n m : ℕ) (xs : List ℕ) → n ≤ m → take n (take m xs) ≡ take n xs
take_shorter zero m xs h = refl
take_shorter (suc n) zero xs h = absurd (omega (arith, h))
take_shorter (suc n) (suc m) [] h = refl
take_shorter (suc n) (suc m) (x ∷ xs) h = ap (λ ys. x ∷ ys) (take_shorter n m xs (omega (arith, h)))

-- of a read of the stream, the bytes that belong to the front are read of the front
pub front_read : (o o' : Opening) (a b b' : Option (List ℕ)) (buf bytes : List ℕ) (count taken : ℕ) → bytes ≡ take count buf → b' ≡ b → Consumes a b (take count buf) → taken ≤ length bytes
    → ((rest : List ℕ) → front_of o (bytes ++ rest) ≡ take taken bytes ++ front_of o' rest) → Consumes (option_map (front_of o) a) (option_map (front_of o') b') (take taken buf)
front_read o o' None b b' buf bytes count taken s k c le f = tt
front_read o o' (Some xs) None b' buf bytes count taken s k c le f = absurd c
front_read o o' (Some xs) (Some ys) b' buf bytes count taken s k c le f =
    let few : taken ≤ count = omega (arith, le, ap length s, length-take count buf) in
    let P : Option (List ℕ) → Type 0 = λ x. Consumes (Some (front_of o xs)) (option_map (front_of o') x) (take taken buf) in
    subst P (sym k) (ap (front_of o) (c ∙ ap (λ x. x ++ ys) (sym s)) ∙ f ys ∙ ap (λ x. x ++ front_of o' ys) (ap (take taken) s ∙ take_shorter taken count buf few))

front_at_end : (o : Opening) (a : Option (List ℕ)) → IsAtEnd a → IsAtEnd (option_map (front_of o) a)
front_at_end o None e = tt
front_at_end o (Some xs) e = ap (front_of o) e

-- where no byte was read of the front, no byte was read of the stream
pub front_ended : (o : Opening) (b b' : Option (List ℕ)) (buf bytes : List ℕ) (count taken : ℕ) → bytes ≡ take count buf → b' ≡ b → count ≤ length buf → (0 < length bytes → 0 < taken) → (count ≡ 0 → 0 < length buf → IsAtEnd b)
    → taken ≡ 0 → 0 < length buf → IsAtEnd (option_map (front_of o) b')
front_ended o b b' buf bytes count taken s k le some end none room =
    let P : Option (List ℕ) → Type 0 = λ x. IsAtEnd (option_map (front_of o) x) in
    subst P (sym k) (front_at_end o b (end (no_byte (length bytes) refl) room))
  where
    no_byte : (n : ℕ) → n ≡ length bytes → count ≡ 0
    no_byte zero e = omega (arith, e, ap length s, length-take count buf, le)
    no_byte (suc n) e = absurd (omega (arith, some (omega (arith, e)), none))

pub front_kept : (o : Opening) (a b : Option (List ℕ)) → Keeps a b → Keeps (option_map (front_of o) a) (option_map (front_of o) b)
front_kept o None b e = tt
front_kept o (Some xs) None e = absurd e
front_kept o (Some xs) (Some ys) e = ap (front_of o) e

-- nothing is read, and nothing is left
pub front_nothing : (o : Opening) (a : Option (List ℕ)) → is_refused o ≡ true → Consumes (option_map (front_of o) a) (option_map (front_of o) a) [] × IsAtEnd (option_map (front_of o) a)
front_nothing o None e = (tt, tt)
front_nothing o (Some xs) e = (refl, front_over o xs e)
