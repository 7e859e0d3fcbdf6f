-- Charges that are taken apart, put in order and joined keep their sums.
use Rattle.std.proofs.Common.{◌≡◌, ℕ, ◌+◌, ◌<◌, refl, sym, ◌∙◌, ap, arith, List, [], ◌∷◌, ◌++◌, append_assoc, map, length, get_or, take, Bool, true, false}
use Rattle.std.specs.Prelude.{if◌then◌else◌}
use Rattle.std.specs.List.{sum_by}
use Rattle.std.specs.List.Sorted.{IsPermutation}
use Rattle.std.proofs.lemmas.List.{map-append, take_more}
use Rattle.std.proofs.lemmas.List.Sums.{sum_by-cons, sum_by-append, sum_by_push}
use Rattle.std.proofs.lemmas.List.Sorted.{IsPermutation-map, sum_by-IsPermutation}
use Rattle.std.proofs.lemmas.List.Recursion.{is_sum_by}
use Rattle.nesl_cost_meaning.specs.Cost as cost
use Rattle.nesl_cost_meaning.specs.Cost.{Place, works, depths}
use Rattle.nesl_cost_rows.specs.declared.charge.Charge.{Charge}
use Rattle.nesl_cost_rows.specs.Charges.{charge_of}
use Rattle.nesl_cost_shown.specs.Tables.{work_at, depth_at, work_alone, depth_alone, Joins}

-- one more of two lists
pub one_more : {X Z : Type 0} (f : X → Z) (h : Z → Z) (base : List Z) (old new : List X) (x y : X) (xs : List X) (i : ℕ) → i < length xs → x ≡ get_or xs i x →
    map f old ≡ base ++ map h (map f (take i xs)) → new ≡ old ++ y ∷ [] → f y ≡ h (f x) → map f new ≡ base ++ map h (map f (take (i + 1) xs))
one_more f h base old new x y xs i l a e n v =
    ap (map f) n ∙ map-append f old (y ∷ []) ∙ ap (λ zs. zs ++ f y ∷ []) e ∙ append_assoc base (map h (map f (take i xs))) (f y ∷ [])
    ∙ ap (λ z. base ++ (map h (map f (take i xs)) ++ z ∷ [])) (v ∙ ap (λ w. h (f w)) a)
    ∙ ap (λ zs. base ++ zs) (sym (map-append h (map f (take i xs)) (f (get_or xs i x) ∷ [])))
    ∙ ap (λ zs. base ++ map h zs) (sym (map-append f (take i xs) (get_or xs i x ∷ [])))
    ∙ ap (λ zs. base ++ map h (map f zs)) (sym (take_more xs i x l))

-- taken apart
neither : (b : Bool) → ◌≡◌ {A = ℕ} (if b then 0 else 0) 0
neither true = refl
neither false = refl

none_plus : (n : ℕ) → 0 + n ≡ n
none_plus n = omega arith

module _ (p : Place → Bool) where
  abbrev work_of : cost.Charge → ℕ
  work_of c = if p c.place then c.work else 0

  abbrev depth_of : cost.Charge → ℕ
  depth_of c = if p c.place then c.depth else 0

  works_kept : (cs : List cost.Charge) → work_at p (map work_alone cs) ≡ work_at p cs
  works_kept [] = refl
  works_kept (c ∷ cs) =
      sum_by-cons work_of (work_alone c) (map work_alone cs) ∙ ap (λ n. work_of c + n) (works_kept cs) ∙ sym (sum_by-cons work_of c cs)

  depths_kept : (cs : List cost.Charge) → depth_at p (map depth_alone cs) ≡ depth_at p cs
  depths_kept [] = refl
  depths_kept (c ∷ cs) =
      sum_by-cons depth_of (depth_alone c) (map depth_alone cs) ∙ ap (λ n. depth_of c + n) (depths_kept cs) ∙ sym (sum_by-cons depth_of c cs)

  no_depth : (cs : List cost.Charge) → depth_at p (map work_alone cs) ≡ 0
  no_depth [] = refl
  no_depth (c ∷ cs) =
      sum_by-cons depth_of (work_alone c) (map work_alone cs) ∙ ap (λ n. n + depth_at p (map work_alone cs)) (neither (p c.place))
      ∙ none_plus (depth_at p (map work_alone cs)) ∙ no_depth cs

  no_work : (cs : List cost.Charge) → work_at p (map depth_alone cs) ≡ 0
  no_work [] = refl
  no_work (c ∷ cs) =
      sum_by-cons work_of (depth_alone c) (map depth_alone cs) ∙ ap (λ n. n + work_at p (map depth_alone cs)) (neither (p c.place))
      ∙ none_plus (work_at p (map depth_alone cs)) ∙ no_work cs

  pub apart_work : (cs ds es : List cost.Charge) → es ≡ map work_alone cs ++ map depth_alone ds → work_at p es ≡ work_at p cs
  apart_work cs ds es e =
      ap (work_at p) e ∙ sum_by-append work_of (map work_alone cs) (map depth_alone ds) ∙ ap (λ n. work_at p (map work_alone cs) + n) (no_work ds)
      ∙ plus_none (work_at p (map work_alone cs)) ∙ works_kept cs
    where
      plus_none : (n : ℕ) → n + 0 ≡ n
      plus_none n = omega arith

  pub apart_depth : (cs ds es : List cost.Charge) → es ≡ map work_alone cs ++ map depth_alone ds → depth_at p es ≡ depth_at p ds
  apart_depth cs ds es e =
      ap (depth_at p) e ∙ sum_by-append depth_of (map work_alone cs) (map depth_alone ds) ∙ ap (λ n. n + depth_at p (map depth_alone ds)) (no_depth cs)
      ∙ none_plus (depth_at p (map depth_alone ds)) ∙ depths_kept ds

  -- put in order
  pub ordered_work : (cs ds : List Charge) → IsPermutation cs ds → work_at p (map charge_of ds) ≡ work_at p (map charge_of cs)
  ordered_work cs ds h = sum_by-IsPermutation work_of (map charge_of cs) (map charge_of ds) (IsPermutation-map charge_of cs ds h)

  pub ordered_depth : (cs ds : List Charge) → IsPermutation cs ds → depth_at p (map charge_of ds) ≡ depth_at p (map charge_of cs)
  ordered_depth cs ds h = sum_by-IsPermutation depth_of (map charge_of cs) (map charge_of ds) (IsPermutation-map charge_of cs ds h)

  -- joined
  both : (b : Bool) (k m n : ℕ) → k ≡ m + n → (if b then k else 0) ≡ (if b then m else 0) + (if b then n else 0)
  both true k m n e = e
  both false k m n e = refl

  joined_work : (c d e : cost.Charge) → c.place ≡ d.place → Joins c d e → work_of e ≡ work_of c + work_of d
  joined_work c d e q j =
      both (p e.place) e.work c.work d.work j.1 ∙ ap (λ b. (if b then c.work else 0) + (if p e.place then d.work else 0)) (ap p j.0)
      ∙ ap (λ b. work_of c + (if b then d.work else 0)) (ap p (j.0 ∙ q))

  joined_depth : (c d e : cost.Charge) → c.place ≡ d.place → Joins c d e → depth_of e ≡ depth_of c + depth_of d
  joined_depth c d e q j =
      both (p e.place) e.depth c.depth d.depth j.2 ∙ ap (λ b. (if b then c.depth else 0) + (if p e.place then d.depth else 0)) (ap p j.0)
      ∙ ap (λ b. depth_of c + (if b then d.depth else 0)) (ap p (j.0 ∙ q))

  joined_sums : (f : cost.Charge → ℕ) (cs : List cost.Charge) (c d e : cost.Charge) → f e ≡ f c + f d → sum_by f (cs ++ e ∷ []) ≡ sum_by f ((cs ++ c ∷ []) ++ d ∷ [])
  joined_sums f cs c d e h =
      let l : sum_by f (cs ++ e ∷ []) ≡ sum_by f cs + f e = sum_by_push f cs e in
      let m : sum_by f ((cs ++ c ∷ []) ++ d ∷ []) ≡ sum_by f (cs ++ c ∷ []) + f d = sum_by_push f (cs ++ c ∷ []) d in
      let n : sum_by f (cs ++ c ∷ []) ≡ sum_by f cs + f c = sum_by_push f cs c in
      omega (arith, h, l, m, n)

  pub beside_work : (cs old new : List Charge) (c d e : Charge) → old ≡ cs ++ c ∷ [] → new ≡ cs ++ e ∷ [] → (charge_of c).place ≡ (charge_of d).place →
      Joins (charge_of c) (charge_of d) (charge_of e) → work_at p (map charge_of new) ≡ work_at p (map charge_of old ++ charge_of d ∷ [])
  beside_work cs old new c d e a b q j =
      ap (λ xs. work_at p xs) (ap (map charge_of) b ∙ map-append charge_of cs (e ∷ []))
      ∙ joined_sums work_of (map charge_of cs) (charge_of c) (charge_of d) (charge_of e) (joined_work (charge_of c) (charge_of d) (charge_of e) q j)
      ∙ ap (λ xs. work_at p (xs ++ charge_of d ∷ [])) (sym (ap (map charge_of) a ∙ map-append charge_of cs (c ∷ [])))

  pub beside_depth : (cs old new : List Charge) (c d e : Charge) → old ≡ cs ++ c ∷ [] → new ≡ cs ++ e ∷ [] → (charge_of c).place ≡ (charge_of d).place →
      Joins (charge_of c) (charge_of d) (charge_of e) → depth_at p (map charge_of new) ≡ depth_at p (map charge_of old ++ charge_of d ∷ [])
  beside_depth cs old new c d e a b q j =
      ap (λ xs. depth_at p xs) (ap (map charge_of) b ∙ map-append charge_of cs (e ∷ []))
      ∙ joined_sums depth_of (map charge_of cs) (charge_of c) (charge_of d) (charge_of e) (joined_depth (charge_of c) (charge_of d) (charge_of e) q j)
      ∙ ap (λ xs. depth_at p (xs ++ charge_of d ∷ [])) (sym (ap (map charge_of) a ∙ map-append charge_of cs (c ∷ [])))

  -- one more in a loop
  more_of : (f : cost.Charge → ℕ) (rows new : List cost.Charge) (x : Charge) (xs : List Charge) (i : ℕ) → i < length xs → x ≡ get_or xs i x →
      sum_by f rows ≡ sum_by f (map charge_of (take i xs)) → sum_by f new ≡ sum_by f (rows ++ charge_of x ∷ []) → sum_by f new ≡ sum_by f (map charge_of (take (i + 1) xs))
  more_of f rows new x xs i l a e n =
      n ∙ sum_by_push f rows (charge_of x) ∙ ap (λ k. k + f (charge_of x)) e ∙ sym (sum_by_push f (map charge_of (take i xs)) (charge_of x))
      ∙ ap (λ y. sum_by f (map charge_of (take i xs) ++ charge_of y ∷ [])) a
      ∙ ap (sum_by f) (sym (map-append charge_of (take i xs) (get_or xs i x ∷ [])))
      ∙ ap (λ ys. sum_by f (map charge_of ys)) (sym (take_more xs i x l))

  pub more_work : (rows new : List cost.Charge) (x : Charge) (xs : List Charge) (i : ℕ) → i < length xs → x ≡ get_or xs i x →
      work_at p rows ≡ work_at p (map charge_of (take i xs)) → work_at p new ≡ work_at p (rows ++ charge_of x ∷ []) → work_at p new ≡ work_at p (map charge_of (take (i + 1) xs))
  more_work rows new x xs i l a e n = more_of work_of rows new x xs i l a e n

  pub more_depth : (rows new : List cost.Charge) (x : Charge) (xs : List Charge) (i : ℕ) → i < length xs → x ≡ get_or xs i x →
      depth_at p rows ≡ depth_at p (map charge_of (take i xs)) → depth_at p new ≡ depth_at p (rows ++ charge_of x ∷ []) → depth_at p new ≡ depth_at p (map charge_of (take (i + 1) xs))
  more_depth rows new x xs i l a e n = more_of depth_of rows new x xs i l a e n

-- all of a list, by std's sum
pub works_sum : (cs : List Charge) → works (map charge_of cs) ≡ sum_by (λ (c : Charge). c.work) cs
works_sum cs = is_sum_by (λ (ds : List Charge). works (map charge_of ds)) (λ (c : Charge). c.work) refl (λ _ _. refl) cs

pub depths_sum : (cs : List Charge) → depths (map charge_of cs) ≡ sum_by (λ (c : Charge). c.depth) cs
depths_sum cs = is_sum_by (λ (ds : List Charge). depths (map charge_of ds)) (λ (c : Charge). c.depth) refl (λ _ _. refl) cs
