-- Names bound and taken back.
use Rattle.std.proofs.Common.{◌≡◌, ◌≤◌, ℕ, suc, ◌+◌, ◌-◌, Bool, true, false, cond, List, [], ◌∷◌, ◌++◌, Option, Some, None, length, take, drop, refl, sym, ap, ◌∙◌, arith, length-append}
use Rattle.std.specs.Prelude.{Result, Ok, Err, OnOk, OnErr, nat_lt, ◌||◌, if◌then◌else◌}
use Rattle.std.specs.Option.{unwrap_or}
use Rattle.std.specs.List.{list_any}
use Rattle.std.specs.Str.{bytes_eq}
use Rattle.std.specs.Map.{lookup}
use Rattle.std.specs.Ordering.{is_eq, nat_cmp, match_ordering}
use Rattle.std.specs.Cmp.Lexicographic.{slice_cmp}
use Rattle.std.specs.declared.cmp.Ordering.{Ordering}
use Rattle.std.specs.declared.cmp.Ordering.TheVariants.{Less, Equal, Greater}
use Rattle.std.specs.BTreeMap.{insert_entry}
use Rattle.std.proofs.lemmas.Map.Text.{is_eq-slice_cmp}
use Rattle.std.proofs.lemmas.Slice.Eq.{bytes_eq-Decides}
use Rattle.std.proofs.lemmas.Bool.Decides.{nat_tests}
use Rattle.std.proofs.lemmas.List.{drop-drop}
use Rattle.std.proofs.Math.Seq.{drop-append_seam, take-append_seam}
use Rattle.nesl_infer_names.specs.Scoping.{newest_first, occurrences, count}

module _ {K : Type 0} (bytes : K → List ℕ) where
  pub newest-push : (ks : List K) (k : K) → newest_first bytes (ks ++ k ∷ []) ≡ bytes k ∷ newest_first bytes ks
  newest-push [] k = refl
  newest-push (j ∷ ks) k = ap (λ (ns : List (List ℕ)). ns ++ bytes j ∷ []) (newest-push ks k)

  pub newest-length : (ks : List K) → length (newest_first bytes ks) ≡ length ks
  newest-length [] = refl
  newest-length (k ∷ ks) = omega (arith, length-append (newest_first bytes ks) (bytes k ∷ []), newest-length ks)

pub occurrences-most : (x : List ℕ) (ns : List (List ℕ)) → occurrences x ns ≤ length ns
occurrences-most x [] = omega arith
occurrences-most x (n ∷ ns) = most-step (bytes_eq x n) (occurrences x ns) (length ns) (occurrences-most x ns)
  where
    most-step : (b : Bool) (k n : ℕ) → k ≤ n → (if b then 1 + k else k) ≤ suc n
    most-step true k n h = omega arith
    most-step false k n h = omega arith

-- the order of names by their bytes
abbrev pub key_order : {K : Type 0} → (K → List ℕ) → K → K → Ordering
key_order bytes j k = slice_cmp nat_cmp (bytes j) (bytes k)

twice : {O : Type 0} (a b : Bool) → a ≡ b → (p q l : O) → cond a q l ≡ cond b q (cond a p l)
twice true b h p q l = ap (λ (t : Bool). cond t q p) h
twice false b h p q l = ap (λ (t : Bool). cond t q l) h

apart : {O : Type 0} (a b : Bool) → (a ≡ true → b ≡ true → ⊥) → (p q l : O) → cond a p (cond b q l) ≡ cond b q (cond a p l)
apart true true h p q l = absurd (h refl refl)
apart true false h p q l = refl
apart false true h p q l = refl
apart false false h p q l = refl

module _ {K X : Type 0} (bytes : K → List ℕ) (x : List ℕ) (k : K) (v : X) where
  inserted_at : (e : K × X) (es : List (K × X)) (o : Ordering) → slice_cmp nat_cmp (bytes k) (bytes e.0) ≡ o
      → lookup (λ j. is_eq (slice_cmp nat_cmp x (bytes j))) (insert_entry (key_order bytes) es k v) ≡ cond (bytes_eq x (bytes k)) (Some v) (lookup (λ j. is_eq (slice_cmp nat_cmp x (bytes j))) es)
      → lookup (λ j. is_eq (slice_cmp nat_cmp x (bytes j))) (match_ordering o ((k, v) ∷ (e ∷ es)) ((e.0, v) ∷ es) (e ∷ insert_entry (key_order bytes) es k v))
      ≡ cond (bytes_eq x (bytes k)) (Some v) (lookup (λ j. is_eq (slice_cmp nat_cmp x (bytes j))) (e ∷ es))
  inserted_at e es Less h ih = ap (λ (b : Bool). cond b (Some v) (lookup (λ j. is_eq (slice_cmp nat_cmp x (bytes j))) (e ∷ es))) (is_eq-slice_cmp x (bytes k))
  inserted_at e es Equal h ih =
      let same : bytes k ≡ bytes e.0 = (bytes_eq-Decides (bytes k) (bytes e.0)).0 (sym (is_eq-slice_cmp (bytes k) (bytes e.0)) ∙ ap is_eq h) in
      let test : is_eq (slice_cmp nat_cmp x (bytes e.0)) ≡ bytes_eq x (bytes k) = is_eq-slice_cmp x (bytes e.0) ∙ ap (bytes_eq x) (sym same) in
      twice (is_eq (slice_cmp nat_cmp x (bytes e.0))) (bytes_eq x (bytes k)) test (Some e.1) (Some v) (lookup (λ j. is_eq (slice_cmp nat_cmp x (bytes j))) es)
  inserted_at e es Greater h ih =
      let never : is_eq (slice_cmp nat_cmp x (bytes e.0)) ≡ true → bytes_eq x (bytes k) ≡ true → ⊥ = λ a b.
      let here : x ≡ bytes e.0 = (bytes_eq-Decides x (bytes e.0)).0 (sym (is_eq-slice_cmp x (bytes e.0)) ∙ a) in
      let there : x ≡ bytes k = (bytes_eq-Decides x (bytes k)).0 b in
      let same : bytes_eq (bytes k) (bytes e.0) ≡ true = (bytes_eq-Decides (bytes k) (bytes e.0)).1 (sym there ∙ here) in
      let not_same : bytes_eq (bytes k) (bytes e.0) ≡ false = sym (is_eq-slice_cmp (bytes k) (bytes e.0)) ∙ ap is_eq h in
      cc in
      ap (λ (l : Option X). cond (is_eq (slice_cmp nat_cmp x (bytes e.0))) (Some e.1) l) ih
      ∙ apart (is_eq (slice_cmp nat_cmp x (bytes e.0))) (bytes_eq x (bytes k)) never (Some e.1) (Some v) (lookup (λ j. is_eq (slice_cmp nat_cmp x (bytes j))) es)

  pub inserted : (es : List (K × X))
      → lookup (λ j. is_eq (slice_cmp nat_cmp x (bytes j))) (insert_entry (key_order bytes) es k v) ≡ cond (bytes_eq x (bytes k)) (Some v) (lookup (λ j. is_eq (slice_cmp nat_cmp x (bytes j))) es)
  inserted [] = ap (λ (b : Bool). cond b (Some v) None) (is_eq-slice_cmp x (bytes k))
  inserted (e ∷ es) = inserted_at e es (slice_cmp nat_cmp (bytes k) (bytes e.0)) refl (inserted es)

push_step : (b : Bool) (v c : ℕ) (l : Option ℕ) → (b ≡ true → v ≡ 1 + c) → unwrap_or l 0 ≡ c → unwrap_or (cond b (Some v) l) 0 ≡ (if b then 1 + c else c)
push_step true v c l h i = h refl
push_step false v c l h i = i

pop_step : (b : Bool) (v c : ℕ) (l : Option ℕ) → (b ≡ true → v ≡ c) → unwrap_or l 0 ≡ (if b then 1 + c else c) → unwrap_or (cond b (Some v) l) 0 ≡ c
pop_step true v c l h i = h refl
pop_step false v c l h i = i

module _ {K : Type 0} (bytes : K → List ℕ) (es : List (K × ℕ)) (ns : List (List ℕ)) (k : K) (v : ℕ) where
  pub counted-push : ((x : List ℕ) → count bytes x es ≡ occurrences x ns) → v ≡ occurrences (bytes k) ns + 1
      → (x : List ℕ) → count bytes x (insert_entry (key_order bytes) es k v) ≡ occurrences x (bytes k ∷ ns)
  counted-push h e x =
      ap (λ (o : Option ℕ). unwrap_or o 0) (inserted bytes x k v es)
      ∙ push_step (bytes_eq x (bytes k)) v (occurrences x ns) (lookup (λ j. is_eq (slice_cmp nat_cmp x (bytes j))) es)
      (λ t. let same : x ≡ bytes k = (bytes_eq-Decides x (bytes k)).0 t in
      let like : occurrences x ns ≡ occurrences (bytes k) ns = ap (λ (y : List ℕ). occurrences y ns) same in
      omega arith)
      (h x)

  pub counted-pop : ((x : List ℕ) → count bytes x es ≡ occurrences x (bytes k ∷ ns)) → v ≡ occurrences (bytes k) ns
      → (x : List ℕ) → count bytes x (insert_entry (key_order bytes) es k v) ≡ occurrences x ns
  counted-pop h e x =
      ap (λ (o : Option ℕ). unwrap_or o 0) (inserted bytes x k v es)
      ∙ pop_step (bytes_eq x (bytes k)) v (occurrences x ns) (lookup (λ j. is_eq (slice_cmp nat_cmp x (bytes j))) es)
      (λ t. e ∙ ap (λ (y : List ℕ). occurrences y ns) (sym ((bytes_eq-Decides x (bytes k)).0 t)))
      (h x)

-- a name that was bound last is counted
pub occurrences-first : (x : List ℕ) (ns : List (List ℕ)) → occurrences x (x ∷ ns) ≡ 1 + occurrences x ns
occurrences-first x ns = ap (λ (b : Bool). if b then 1 + occurrences x ns else occurrences x ns) ((bytes_eq-Decides x x).1 refl)

pub is_counted : (x : List ℕ) (ns : List (List ℕ)) → nat_lt 0 (occurrences x ns) ≡ list_any (bytes_eq x) ns
is_counted x [] = refl
is_counted x (n ∷ ns) = counted-step (bytes_eq x n) (occurrences x ns) (list_any (bytes_eq x) ns) (is_counted x ns)
  where
    positive : (c : ℕ) → nat_lt 0 (1 + c) ≡ true
    positive c = grind (arith, nat_tests)

    counted-step : (b : Bool) (c : ℕ) (a : Bool) → nat_lt 0 c ≡ a → nat_lt 0 (if b then 1 + c else c) ≡ (b || a)
    counted-step true c a h = positive c
    counted-step false c a h = h

pub dropped : (added rest : List (List ℕ)) → drop (length (added ++ rest) - length rest) (added ++ rest) ≡ rest
dropped added rest =
    let long : length (added ++ rest) - length rest ≡ length added = omega (arith, length-append added rest) in
    ap (λ (n : ℕ). drop n (added ++ rest)) long ∙ drop-append_seam added rest

-- a name bound and not taken back is in the map
pub never_absent : {K : Type 0} (bytes : K → List ℕ) (es : List (K × ℕ)) (x : List ℕ) (n : ℕ) → lookup (λ j. is_eq (slice_cmp nat_cmp x (bytes j))) es ≡ None → count bytes x es ≡ 1 + n → ⊥
never_absent bytes es x n a e =
    let nothing : count bytes x es ≡ 0 = ap (λ (o : Option ℕ). unwrap_or o 0) a in
    omega arith

module _ {K A E : Type 0} (bytes : K → List ℕ) (es new : List (K × ℕ)) (ns : List (List ℕ)) (k : K) (v : ℕ) where
  pub counted-after : (r : Result A E) → OnOk r (new ≡ insert_entry (key_order bytes) es k v) → OnErr r (lookup (λ j. is_eq (slice_cmp nat_cmp (bytes k) (bytes j))) es ≡ None)
      → ((x : List ℕ) → count bytes x es ≡ occurrences x (bytes k ∷ ns)) → v ≡ occurrences (bytes k) ns → (x : List ℕ) → count bytes x new ≡ occurrences x ns
  counted-after (Ok a) h i c e x = ap (count bytes x) h ∙ counted-pop bytes es ns k v c e x
  counted-after (Err a) h i c e x = absurd (never_absent bytes es (bytes k) (occurrences (bytes k) ns) i (c (bytes k) ∙ occurrences-first (bytes k) ns))

pub put_back : {K : Type 0} (xs ys : List K) (k : K) (n : ℕ) → n ≡ length xs + 1 → ys ≡ take (n - 1) (xs ++ k ∷ []) → ys ≡ xs
put_back xs ys k n e h =
    let long : n - 1 ≡ length xs = omega arith in
    h ∙ ap (λ (m : ℕ). take m (xs ++ k ∷ [])) long ∙ take-append_seam xs (k ∷ [])

pub nothing_left : {K : Type 0} (bytes : K → List ℕ) (xs ys : List K) (n : ℕ) → n ≡ length xs → n ≡ 0 → xs ≡ ys ++ [] → newest_first bytes ys ≡ drop 1 (newest_first bytes xs)
nothing_left bytes [] [] n e z h = refl
nothing_left bytes [] (y ∷ ys) n e z h = cc
nothing_left bytes (x ∷ xs) ys n e z h = absurd (omega arith)

pub dropped_more : (n : ℕ) (ns : List (List ℕ)) → drop 1 (drop n ns) ≡ drop (n + 1) ns
dropped_more n ns = drop-drop 1 n ns
