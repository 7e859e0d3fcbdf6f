-- Names and their entries, in pairs.
use Rattle.std.proofs.Common.{◌≡◌, ℕ, zero, suc, Bool, true, false, List, [], ◌∷◌, ◌++◌, Some, None, map, length, slice_get, slice_set, Option, cond, refl, ap, sym, ◌∙◌, arith}
use Rattle.std.specs.Prelude.{option_map, if◌then◌else◌}
use Rattle.std.proofs.lemmas.List.{length-map}
use Rattle.std.proofs.lemmas.Option.{slice_get-map}
use Rattle.std.specs.Str.{bytes_eq}
use Rattle.nesl_types.specs.declared.bindings.Top.{Top}
use Rattle.nesl_types.specs.Order.{place_of}
use Rattle.nesl_types.specs.Names.{named, found, with_name, with_name_at}

no_first : (o : Option ℕ) → Some 0 ≡ option_map suc o → ⊥
no_first None e = cc
no_first (Some j) e = cc

before : (o : Option ℕ) (i : ℕ) → Some (suc i) ≡ option_map suc o → Some i ≡ o
before None i e = absurd cc
before (Some j) i e = let same : i ≡ j = cc in ap Some same

none_before : (o : Option ℕ) → None ≡ option_map suc o → None ≡ o
none_before None e = refl
none_before (Some j) e = absurd cc

module _ {P : Type 0} where
  -- what is at a place of the pairs
  pub pair_at : (ns : List (List ℕ)) (rs : List (Top × P)) (i : ℕ) (n : List ℕ) (r : Top × P) → Some n ≡ slice_get ns i → Some r ≡ slice_get rs i → Some (n, r.0, r.1) ≡ slice_get (named ns rs) i
  pair_at [] rs i n r a b = absurd cc
  pair_at (m ∷ ns) [] i n r a b = absurd cc
  pair_at (m ∷ ns) (s ∷ rs) zero n r a b =
      let x : n ≡ m = cc in
      let y : r ≡ s = cc in
      ap (λ l. Some (l, r.0, r.1)) x ∙ ap (λ (l : Top × P). Some (m, l.0, l.1)) y
  pair_at (m ∷ ns) (s ∷ rs) (suc i) n r a b = pair_at ns rs i n r a b

  pub no_name_at : (ns : List (List ℕ)) (rs : List (Top × P)) (i : ℕ) → None ≡ slice_get ns i → None ≡ slice_get (named ns rs) i
  no_name_at [] rs i a = refl
  no_name_at (m ∷ ns) [] i a = refl
  no_name_at (m ∷ ns) (s ∷ rs) zero a = absurd cc
  no_name_at (m ∷ ns) (s ∷ rs) (suc i) a = no_name_at ns rs i a

  pub no_row_at : (ns : List (List ℕ)) (rs : List (Top × P)) (i : ℕ) → None ≡ slice_get rs i → None ≡ slice_get (named ns rs) i
  no_row_at [] rs i a = refl
  no_row_at (m ∷ ns) [] i a = refl
  no_row_at (m ∷ ns) (s ∷ rs) zero a = absurd cc
  no_row_at (m ∷ ns) (s ∷ rs) (suc i) a = no_row_at ns rs i a

  -- what is found at the place of a name
  pub found_at : (x : List ℕ) (ns : List (List ℕ)) (rs : List (Top × P)) (i : ℕ) → length ns ≡ length rs → Some i ≡ place_of ns x → slice_get rs i ≡ found x (named ns rs)
  found_at x [] rs i l h = absurd cc
  found_at x (n ∷ ns) [] i l h = absurd (omega arith)
  found_at x (n ∷ ns) (r ∷ rs) i l h = by (bytes_eq x n) i h (λ j. found_at x ns rs j (omega arith))
    where
      by : (q : Bool) (j : ℕ) → Some j ≡ cond q (Some 0) (option_map suc (place_of ns x)) → ((k : ℕ) → Some k ≡ place_of ns x → slice_get rs k ≡ found x (named ns rs)) →
          slice_get (r ∷ rs) j ≡ cond q (Some (r.0, r.1)) (found x (named ns rs))
      by true zero e f = refl
      by true (suc j) e f = absurd cc
      by false zero e f = absurd (no_first (place_of ns x) e)
      by false (suc j) e f = f j (before (place_of ns x) j e)

  pub not_found : (x : List ℕ) (ns : List (List ℕ)) (rs : List (Top × P)) → None ≡ place_of ns x → None ≡ found x (named ns rs)
  not_found x [] rs h = refl
  not_found x (n ∷ ns) [] h = refl
  not_found x (n ∷ ns) (r ∷ rs) h = by (bytes_eq x n) h (not_found x ns rs)
    where
      by : (q : Bool) → None ≡ cond q (Some 0) (option_map suc (place_of ns x)) → (None ≡ place_of ns x → None ≡ found x (named ns rs)) → None ≡ cond q (Some (r.0, r.1)) (found x (named ns rs))
      by true e f = absurd cc
      by false e f = f (none_before (place_of ns x) e)

  -- a name is set at its place
  pub set_there : (x : List ℕ) (t : Top) (p : P) (ns : List (List ℕ)) (rs : List (Top × P)) (i : ℕ) → length ns ≡ length rs → Some i ≡ place_of ns x →
      with_name_at i t p (named ns rs) ≡ with_name x t p (named ns rs)
  set_there x t p [] rs i l h = absurd cc
  set_there x t p (n ∷ ns) [] i l h = absurd (omega arith)
  set_there x t p (n ∷ ns) (r ∷ rs) i l h = by (bytes_eq x n) i h (λ j. set_there x t p ns rs j (omega arith))
    where
      by : (q : Bool) (j : ℕ) → Some j ≡ cond q (Some 0) (option_map suc (place_of ns x)) →
          ((k : ℕ) → Some k ≡ place_of ns x → with_name_at k t p (named ns rs) ≡ with_name x t p (named ns rs)) →
          with_name_at j t p ((n, r.0, r.1) ∷ named ns rs) ≡ cond q ((n, t, p) ∷ named ns rs) ((n, r.0, r.1) ∷ with_name x t p (named ns rs))
      by true zero e f = refl
      by true (suc j) e f = absurd cc
      by false zero e f = absurd (no_first (place_of ns x) e)
      by false (suc j) e f = ap (λ l. (n, r.0, r.1) ∷ l) (f j (before (place_of ns x) j e))

  -- and a new one after all others
  pub set_last : (x : List ℕ) (t : Top) (p : P) (ns : List (List ℕ)) (rs : List (Top × P)) → length ns ≡ length rs → None ≡ place_of ns x →
      named (ns ++ x ∷ []) (rs ++ (t, p) ∷ []) ≡ with_name x t p (named ns rs)
  set_last x t p [] [] l h = refl
  set_last x t p [] (r ∷ rs) l h = absurd (omega arith)
  set_last x t p (n ∷ ns) [] l h = absurd (omega arith)
  set_last x t p (n ∷ ns) (r ∷ rs) l h = by (bytes_eq x n) h (set_last x t p ns rs (omega arith))
    where
      by : (q : Bool) → None ≡ cond q (Some 0) (option_map suc (place_of ns x)) →
          (None ≡ place_of ns x → named (ns ++ x ∷ []) (rs ++ (t, p) ∷ []) ≡ with_name x t p (named ns rs)) →
          (n, r.0, r.1) ∷ named (ns ++ x ∷ []) (rs ++ (t, p) ∷ []) ≡ cond q ((n, t, p) ∷ named ns rs) ((n, r.0, r.1) ∷ with_name x t p (named ns rs))
      by true e f = absurd cc
      by false e f = ap (λ l. (n, r.0, r.1) ∷ l) (f (none_before (place_of ns x) e))

  -- the names alone, and what they are
  pub names_alone : (ns : List (List ℕ)) (rs : List (Top × P)) → length ns ≡ length rs → ns ≡ map (λ b. b.0) (named ns rs)
  names_alone [] rs l = refl
  names_alone (n ∷ ns) [] l = absurd (omega arith)
  names_alone (n ∷ ns) (r ∷ rs) l = ap (λ m. n ∷ m) (names_alone ns rs (omega arith))

  pub how_many : (ns : List (List ℕ)) (rs : List (Top × P)) → length ns ≡ length rs → length ns ≡ length (named ns rs)
  how_many [] rs l = refl
  how_many (n ∷ ns) [] l = absurd (omega arith)
  how_many (n ∷ ns) (r ∷ rs) l = ap suc (how_many ns rs (omega arith))

module _ {E P : Type 0} (top : E → Top) (payload : E → P) where
  abbrev pub rows : List E → List (Top × P)
  rows es = map (λ e. (top e, payload e)) es

  -- what the names are is what the entries are
  pub tops_alone : (ns : List (List ℕ)) (es : List E) → length ns ≡ length es → map (λ b. b.1) (named ns (rows es)) ≡ map top es
  tops_alone [] [] l = refl
  tops_alone [] (e ∷ es) l = absurd (omega arith)
  tops_alone (n ∷ ns) [] l = absurd (omega arith)
  tops_alone (n ∷ ns) (e ∷ es) l = ap (λ m. top e ∷ m) (tops_alone ns es (omega arith))

  -- an entry at a place is a row there
  pub row_at : (es : List E) (i : ℕ) (o : Option E) → o ≡ slice_get es i → option_map (λ e. (top e, payload e)) o ≡ slice_get (rows es) i
  row_at es i o h = ap (option_map (λ e. (top e, payload e))) h ∙ sym (slice_get-map (λ e. (top e, payload e)) es i)

  -- a write at a place is one in the pairs
  pub set_at : (ns : List (List ℕ)) (es : List E) (i : ℕ) (e : E) → named ns (rows (slice_set es i e)) ≡ with_name_at i (top e) (payload e) (named ns (rows es))
  set_at [] es i e = refl
  set_at (n ∷ ns) [] i e = refl
  set_at (n ∷ ns) (d ∷ es) zero e = refl
  set_at (n ∷ ns) (d ∷ es) (suc i) e = ap (λ l. (n, top d, payload d) ∷ l) (set_at ns es i e)

  -- where the entry at a place is this, a write of one like it sets its payload
  pub set_same : (ns : List (List ℕ)) (es : List E) (i : ℕ) (d e : E) (t : Top) → Some d ≡ slice_get es i → top e ≡ top d → option_map top (slice_get es i) ≡ Some t →
      named ns (rows (slice_set es i e)) ≡ with_name_at i t (payload e) (named ns (rows es))
  set_same ns es i d e t h s g =
      let there : Some (top d) ≡ Some t = ap (option_map top) h ∙ g in
      let same : top e ≡ t = cc in
      set_at ns es i e ∙ ap (λ u. with_name_at i u (payload e) (named ns (rows es))) same

  -- past the last place nothing changes
  pub set_past : (ns : List (List ℕ)) (es : List E) (i : ℕ) (t : Top) (p : P) → None ≡ slice_get es i → named ns (rows es) ≡ with_name_at i t p (named ns (rows es))
  set_past [] es i t p h = refl
  set_past (n ∷ ns) [] i t p h = refl
  set_past (n ∷ ns) (d ∷ es) zero t p h = absurd cc
  set_past (n ∷ ns) (d ∷ es) (suc i) t p h = ap (λ l. (n, top d, payload d) ∷ l) (set_past ns es i t p h)

  pub same_length : (ns : List (List ℕ)) (es : List E) → length ns ≡ length es → length ns ≡ length (rows es)
  same_length ns es l = l ∙ sym (length-map es (λ e. (top e, payload e)))
