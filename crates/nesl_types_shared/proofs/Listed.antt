-- The parts of a type, each added once.
use Rattle.std.proofs.Common.{◌≡◌, ◌⊎◌, inl, inr, ℕ, Bool, true, false, ◌&&◌, cond, nat_eq, List, [], ◌∷◌, ◌++◌, refl, sym, ap, subst, ◌∙◌, arith}
use Rattle.std.proofs.lemmas.Bool.Decides.{nat_tests}
use Rattle.std.proofs.lemmas.List.Folds.{list_any-append}
use Rattle.std.specs.List.{list_any}
use Rattle.nesl_types_shared.specs.Term.{Term, int, bool, char, variable, seq_of, pair_of, named}
use Rattle.nesl_types_shared.specs.Lists.{is_same, with_type, with_parts}
pub use Rattle.nesl_types_shared.specs.Moving.{Has, HasParts, IsClosed}
use Rattle.nesl_types_shared.proofs.Visited.{or_cases, or_left, or_right}

and_left : (a b : Bool) → (a && b) ≡ true → a ≡ true
and_left true b h = refl
and_left false b h = cc

and_right : (a b : Bool) → (a && b) ≡ true → b ≡ true
and_right true b h = h
and_right false b h = cc

equal_numbers : (m n : ℕ) → nat_eq m n ≡ true → m ≡ n
equal_numbers m n h = grind (arith, nat_tests)

equal_itself : (n : ℕ) → nat_eq n n ≡ true
equal_itself n = grind (arith, nat_tests)

pub same_types : (t u : Term) → is_same t u ≡ true → t ≡ u
same_types int int h = refl
same_types bool bool h = refl
same_types char char h = refl
same_types (variable v) (variable w) h = ap variable (equal_numbers v w h)
same_types (named m) (named n) h = ap named (equal_numbers m n h)
same_types (seq_of t) (seq_of u) h = ap seq_of (same_types t u h)
same_types (pair_of t u) (pair_of v w) h =
    let e = same_types t v (and_left (is_same t v) (is_same u w) h) in
    let d = same_types u w (and_right (is_same t v) (is_same u w) h) in
    cc
same_types t u h = cc

pub same_itself : (t : Term) → is_same t t ≡ true
same_itself int = refl
same_itself bool = refl
same_itself char = refl
same_itself (variable v) = equal_itself v
same_itself (named n) = equal_itself n
same_itself (seq_of t) = same_itself t
same_itself (pair_of t u) = ap (λ b. b && is_same u u) (same_itself t) ∙ same_itself u

has_left : (ts us : List Term) (v : Term) → Has ts v → Has (ts ++ us) v
has_left ts us v h = list_any-append (is_same v) ts us ∙ or_left (list_any (is_same v) ts) (list_any (is_same v) us) h

has_last : (ts : List Term) (v : Term) → Has (ts ++ v ∷ []) v
has_last ts v = list_any-append (is_same v) ts (v ∷ []) ∙ or_right (list_any (is_same v) ts) (list_any (is_same v) (v ∷ [])) (or_left (is_same v v) false (same_itself v))

one_only : (v t : Term) → Has (t ∷ []) v → v ≡ t
one_only v t h = elim (or_cases (is_same v t) false h) [
  | inl e ↦ same_types v t e
  | inr f ↦ cc
]

pub has_either : (ts : List Term) (t v : Term) → Has (ts ++ t ∷ []) v → Has ts v ⊎ (v ≡ t)
has_either ts t v h = elim (or_cases (list_any (is_same v) ts) (list_any (is_same v) (t ∷ [])) (sym (list_any-append (is_same v) ts (t ∷ [])) ∙ h)) [
  | inl i ↦ inl i
  | inr i ↦ inr (one_only v t i)
]

added_stays : (ts : List Term) (t v : Term) → Has ts v → Has (with_type ts t) v
added_stays ts t v h = by (list_any (is_same t) ts)
  where
    by : (b : Bool) → Has (cond b ts (ts ++ t ∷ [])) v
    by true = h
    by false = has_left ts (t ∷ []) v h

added_itself : (ts : List Term) (t : Term) → Has (with_type ts t) t
added_itself ts t = by (list_any (is_same t) ts) refl
  where
    by : (b : Bool) → list_any (is_same t) ts ≡ b → Has (cond b ts (ts ++ t ∷ [])) t
    by true e = e
    by false e = has_last ts t

added_either : (ts : List Term) (t v : Term) → Has (with_type ts t) v → Has ts v ⊎ (v ≡ t)
added_either ts t v h = by (list_any (is_same t) ts) h
  where
    by : (b : Bool) → Has (cond b ts (ts ++ t ∷ [])) v → Has ts v ⊎ (v ≡ t)
    by true i = inl i
    by false i = has_either ts t v i

pub parts_stay : (ts : List Term) (t v : Term) → Has ts v → Has (with_parts ts t) v
parts_stay ts int v h = added_stays ts int v h
parts_stay ts bool v h = added_stays ts bool v h
parts_stay ts char v h = added_stays ts char v h
parts_stay ts (variable w) v h = added_stays ts (variable w) v h
parts_stay ts (seq_of t) v h = added_stays (with_parts ts t) (seq_of t) v (parts_stay ts t v h)
parts_stay ts (pair_of t u) v h = added_stays (with_parts (with_parts ts t) u) (pair_of t u) v (parts_stay (with_parts ts t) u v (parts_stay ts t v h))
parts_stay ts (named n) v h = added_stays ts (named n) v h

pub parts_itself : (ts : List Term) (t : Term) → Has (with_parts ts t) t
parts_itself ts int = added_itself ts int
parts_itself ts bool = added_itself ts bool
parts_itself ts char = added_itself ts char
parts_itself ts (variable v) = added_itself ts (variable v)
parts_itself ts (seq_of t) = added_itself (with_parts ts t) (seq_of t)
parts_itself ts (pair_of t u) = added_itself (with_parts (with_parts ts t) u) (pair_of t u)
parts_itself ts (named n) = added_itself ts (named n)

has_parts_wider : (ts us : List Term) (t : Term) → ((v : Term) → Has ts v → Has us v) → HasParts ts t → HasParts us t
has_parts_wider ts us int w h = tt
has_parts_wider ts us bool w h = tt
has_parts_wider ts us char w h = tt
has_parts_wider ts us (variable v) w h = tt
has_parts_wider ts us (seq_of t) w h = w t h
has_parts_wider ts us (pair_of t u) w h = (w t h.0, w u h.1)
has_parts_wider ts us (named n) w h = tt

closed_added : (ts : List Term) (t : Term) → IsClosed ts → HasParts ts t → IsClosed (with_type ts t)
closed_added ts t c h v i = elim (added_either ts t v i) [
  | inl j ↦ has_parts_wider ts (with_type ts t) v (λ w k. added_stays ts t w k) (c v j)
  | inr e ↦ subst (HasParts (with_type ts t)) (sym e) (has_parts_wider ts (with_type ts t) t (λ w k. added_stays ts t w k) h)
]

pub closed_parts : (ts : List Term) (t : Term) → IsClosed ts → IsClosed (with_parts ts t)
closed_parts ts int c = closed_added ts int c tt
closed_parts ts bool c = closed_added ts bool c tt
closed_parts ts char c = closed_added ts char c tt
closed_parts ts (variable v) c = closed_added ts (variable v) c tt
closed_parts ts (seq_of t) c = closed_added (with_parts ts t) (seq_of t) (closed_parts ts t c) (parts_itself ts t)
closed_parts ts (pair_of t u) c =
    let ms = with_parts ts t in
    closed_added (with_parts ms u) (pair_of t u) (closed_parts ms u (closed_parts ts t c)) (parts_stay ms u t (parts_itself ts t), parts_itself ms u)
closed_parts ts (named n) c = closed_added ts (named n) c tt

-- a type that is there is not added
none_added : (ts : List Term) (t : Term) → Has ts t → with_type ts t ≡ ts
none_added ts t h = ap (λ b. cond b ts (ts ++ t ∷ [])) h

pub no_more : (ts : List Term) (t : Term) → IsClosed ts → Has ts t → with_parts ts t ≡ ts
no_more ts int c h = none_added ts int h
no_more ts bool c h = none_added ts bool h
no_more ts char c h = none_added ts char h
no_more ts (variable v) c h = none_added ts (variable v) h
no_more ts (seq_of t) c h = ap (λ us. with_type us (seq_of t)) (no_more ts t c (c (seq_of t) h)) ∙ none_added ts (seq_of t) h
no_more ts (pair_of t u) c h =
    let p = c (pair_of t u) h in
    ap (λ us. with_type (with_parts us u) (pair_of t u)) (no_more ts t c p.0) ∙ ap (λ us. with_type us (pair_of t u)) (no_more ts u c p.1) ∙ none_added ts (pair_of t u) h
no_more ts (named n) c h = none_added ts (named n) h

-- a type whose parts are there is added alone
pub alone : (ts : List Term) (t : Term) → IsClosed ts → HasParts ts t → with_parts ts t ≡ with_type ts t
alone ts int c h = refl
alone ts bool c h = refl
alone ts char c h = refl
alone ts (variable v) c h = refl
alone ts (seq_of t) c h = ap (λ us. with_type us (seq_of t)) (no_more ts t c h)
alone ts (pair_of t u) c h = ap (λ us. with_type (with_parts us u) (pair_of t u)) (no_more ts t c h.0) ∙ ap (λ us. with_type us (pair_of t u)) (no_more ts u c h.1)
alone ts (named n) c h = refl

pub added_last : (ts : List Term) (t : Term) → list_any (is_same t) ts ≡ false → with_type ts t ≡ ts ++ t ∷ []
added_last ts t h = ap (λ b. cond b ts (ts ++ t ∷ [])) h

-- the part that comes first may be added before
pub item_first : (ts : List Term) (t : Term) → IsClosed ts → with_parts (with_parts ts t) (seq_of t) ≡ with_parts ts (seq_of t)
item_first ts t c = ap (λ us. with_type us (seq_of t)) (no_more (with_parts ts t) t (closed_parts ts t c) (parts_itself ts t))

pub left_first : (ts : List Term) (t u : Term) → IsClosed ts → with_parts (with_parts ts t) (pair_of t u) ≡ with_parts ts (pair_of t u)
left_first ts t u c = ap (λ us. with_type (with_parts us u) (pair_of t u)) (no_more (with_parts ts t) t (closed_parts ts t c) (parts_itself ts t))

pub right_first : (ts : List Term) (t u : Term) → IsClosed ts → Has ts t → with_parts (with_parts ts u) (pair_of t u) ≡ with_parts ts (pair_of t u)
right_first ts t u c h =
    let ms = with_parts ts u in
    let d = closed_parts ts u c in
    ap (λ us. with_type (with_parts us u) (pair_of t u)) (no_more ms t d (parts_stay ts u t h))
    ∙ ap (λ us. with_type us (pair_of t u)) (no_more ms u d (parts_itself ts u))
    ∙ sym (ap (λ us. with_type (with_parts us u) (pair_of t u)) (no_more ts t c h))
