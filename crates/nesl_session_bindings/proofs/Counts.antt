-- How many elements names have.
use Rattle.std.proofs.Common.{◌≡◌, ℕ, ◌+◌, ◌≤◌, ◌<◌, Bool, true, false, inl, inr, refl, sym, ap, ◌∙◌, arith, List, [], ◌∷◌, Option, Some, None}
use Rattle.std.specs.Prelude.{nat_le, MatchOption, is_some, if◌then◌else◌}
use Rattle.std.specs.Str.{bytes_eq}
use Rattle.std.proofs.lemmas.Bool.{le-leb, lt-leb, cases_lt}
use Rattle.std.proofs.lemmas.List.Sums.{sum_by-cons}
use Rattle.nesl_types.specs.declared.bindings.Top as kinds
use Rattle.nesl_types.specs.Names.{found}
use Rattle.nesl_eval_top_level.specs.declared.env.Payload.{Payload}
use Rattle.nesl_eval_meaning.specs.Names.{Name}
use Rattle.nesl_eval_top_level.specs.Stored.{Entry}
use Rattle.nesl_session_bindings.specs.Others.{other_elements}
use Rattle.nesl_session_bindings.specs.Known.{put_binding}
use Rattle.nesl_session_bindings.specs.Meanings.{Meaning, Binding, elements_in, elements_of}
use Rattle.nesl_session_bindings.specs.Stored.{meaning_of, bindings_of}

more_elements : (b : Binding) (bs : List Binding) → elements_of (b ∷ bs) ≡ elements_in b.meaning + elements_of bs
more_elements b bs = sum_by-cons (λ (c : Binding). elements_in c.meaning) b bs

-- after a put: the elements of the other names, and the new ones
pub put_elements : (x : Name) (m : Meaning) (bs : List Binding) → elements_of (put_binding x m bs) ≡ other_elements x bs + elements_in m
put_elements x m [] = more_elements (record { name = x; meaning = m }) [] ∙ omega arith
put_elements x m (b ∷ bs) = by (bytes_eq x b.name) (put_elements x m bs)
  where
    by : (q : Bool) → elements_of (put_binding x m bs) ≡ other_elements x bs + elements_in m →
        elements_of (if q then record b { meaning = m } ∷ bs else b ∷ put_binding x m bs)
        ≡ (if q then elements_of bs else elements_in b.meaning + other_elements x bs) + elements_in m
    by true i = more_elements (record b { meaning = m }) bs ∙ omega arith
    by false i = more_elements b (put_binding x m bs) ∙ omega (arith, i)

-- the elements of a name and those of the others are all
pub beside_found : (x : Name) (t : kinds.Top) (p : Payload) (es : List Entry) → Some (t, p) ≡ found x es →
    other_elements x (bindings_of es) + elements_in (meaning_of t p) ≡ elements_of (bindings_of es)
beside_found x t p [] h = absurd cc
beside_found x t p (e ∷ es) h = by (bytes_eq x e.0) (beside_found x t p es) h ∙ sym (more_elements (record { name = e.0; meaning = meaning_of e.1 e.2 }) (bindings_of es))
  where
    by : (q : Bool) → (Some (t, p) ≡ found x es → other_elements x (bindings_of es) + elements_in (meaning_of t p) ≡ elements_of (bindings_of es)) →
        Some (t, p) ≡ (if q then Some (e.1, e.2) else found x es) →
        (if q then elements_of (bindings_of es) else elements_in (meaning_of e.1 e.2) + other_elements x (bindings_of es)) + elements_in (meaning_of t p)
        ≡ elements_in (meaning_of e.1 e.2) + elements_of (bindings_of es)
    by true i h =
        let same : ◌≡◌ {A = kinds.Top × Payload} (t, p) (e.1, e.2) = cc in
        let count : elements_in (meaning_of t p) ≡ elements_in (meaning_of e.1 e.2) = ap (λ (b : kinds.Top × Payload). elements_in (meaning_of b.0 b.1)) same in
        omega (arith, count)
    by false i h = omega (arith, i h)

pub beside_none : (x : Name) (es : List Entry) → None ≡ found x es → other_elements x (bindings_of es) ≡ elements_of (bindings_of es)
beside_none x [] h = refl
beside_none x (e ∷ es) h = by (bytes_eq x e.0) (beside_none x es) h ∙ sym (more_elements (record { name = e.0; meaning = meaning_of e.1 e.2 }) (bindings_of es))
  where
    by : (q : Bool) → (None ≡ found x es → other_elements x (bindings_of es) ≡ elements_of (bindings_of es)) →
        None ≡ (if q then Some (e.1, e.2) else found x es) →
        (if q then elements_of (bindings_of es) else elements_in (meaning_of e.1 e.2) + other_elements x (bindings_of es))
        ≡ elements_in (meaning_of e.1 e.2) + elements_of (bindings_of es)
    by true i h = absurd cc
    by false i h = omega (arith, i h)

-- the elements of the other names are no more than all
pub beside_few : (x : Name) (bs : List Binding) → other_elements x bs ≤ elements_of bs
beside_few x [] = omega arith
beside_few x (b ∷ bs) = by (bytes_eq x b.name) (beside_few x bs)
  where
    by : (q : Bool) → other_elements x bs ≤ elements_of bs → (if q then elements_of bs else elements_in b.meaning + other_elements x bs) ≤ elements_of (b ∷ bs)
    by true i = omega (arith, more_elements b bs)
    by false i = omega (arith, more_elements b bs, i)

-- whether the elements are within a limit, by the room that the others leave
module _ (x : Name) (m : Meaning) (bs : List Binding) (limit : ℕ) where
  pub fits_not : limit < other_elements x bs → false ≡ nat_le (elements_of (put_binding x m bs)) limit
  fits_not h = sym (lt-leb (elements_of (put_binding x m bs)) limit (omega (arith, put_elements x m bs)))

  pub fits_beside : elements_of bs + elements_in m ≤ limit → true ≡ nat_le (elements_of (put_binding x m bs)) limit
  fits_beside h = sym (le-leb (elements_of (put_binding x m bs)) limit (omega (arith, h, put_elements x m bs, beside_few x bs)))

  pub fits_when : (room : ℕ) → room + other_elements x bs ≡ limit → elements_in m ≤ room → true ≡ nat_le (elements_of (put_binding x m bs)) limit
  fits_when room r h = sym (le-leb (elements_of (put_binding x m bs)) limit (omega (arith, put_elements x m bs)))

  pub fits_unless : (room : ℕ) → room + other_elements x bs ≡ limit → room < elements_in m → false ≡ nat_le (elements_of (put_binding x m bs)) limit
  fits_unless room r h = sym (lt-leb (elements_of (put_binding x m bs)) limit (omega (arith, put_elements x m bs)))

  pub fits_left : (room : ℕ) (left : Option ℕ) → room + other_elements x bs ≡ limit →
      MatchOption left (room < elements_in m) (λ l. l + elements_in m ≡ room) → is_some left ≡ nat_le (elements_of (put_binding x m bs)) limit
  fits_left room None r h = fits_unless room r h
  fits_left room (Some l) r h = fits_when room r (omega (arith, h))

  pub fits_by : (room : ℕ) → room + other_elements x bs ≡ limit → nat_le (elements_in m) room ≡ nat_le (elements_of (put_binding x m bs)) limit
  fits_by room r =
      elim (cases_lt room (elements_in m)) [
        | inl h ↦ lt-leb (elements_in m) room h ∙ fits_unless room r h
        | inr h ↦ le-leb (elements_in m) room h ∙ fits_when room r h
      ]
