-- The places of names, as a map in order has them.
use Rattle.std.proofs.Common.{◌≡◌, ℕ, suc, Bool, true, false, cond, List, [], ◌∷◌, ◌++◌, length, Option, Some, None, refl, sym, ap, ◌∙◌, map, Vec, Global}
use Rattle.std.specs.Prelude.{option_map, if◌then◌else◌}
use Rattle.std.specs.Str.{bytes_eq}
use Rattle.std.specs.Map.{lookup}
use Rattle.std.specs.Ordering.{is_eq, nat_cmp, match_ordering}
use Rattle.std.specs.Cmp.Lexicographic.{slice_cmp}
use Rattle.std.specs.declared.cmp.Ordering.{Ordering}
use Rattle.std.specs.declared.cmp.Ordering.TheVariants.{Less, Equal, Greater}
use Rattle.std.specs.BTreeMap.{insert_entry}
use Rattle.std.proofs.lemmas.Map.Text.{is_eq-slice_cmp}
use Rattle.std.proofs.lemmas.Slice.Eq.{bytes_eq-Decides}
use Rattle.std.proofs.lemmas.List.{length-map, map-append}
use Rattle.nesl_types.specs.Order.{noted, place_of, HasPlaces}

-- the order of names by their bytes
abbrev pub key_order : {K : Type 0} → (K → List ℕ) → K → K → Ordering
key_order bytes j k = slice_cmp nat_cmp (bytes j) (bytes k)

twice : {O : Type 0} (a b : Bool) → a ≡ b → (p q l : O) → cond a q l ≡ cond b q (cond a p l)
twice true b h p q l = ap (λ (t : Bool). cond t q p) h
twice false b h p q l = ap (λ (t : Bool). cond t q l) h

apart : {O : Type 0} (a b : Bool) → (a ≡ true → b ≡ true → ⊥) → (p q l : O) → cond a p (cond b q l) ≡ cond b q (cond a p l)
apart true true h p q l = absurd (h refl refl)
apart true false h p q l = refl
apart false true h p q l = refl
apart false false h p q l = refl

module _ {K : Type 0} (bytes : K → List ℕ) (x : List ℕ) (k : K) (v : ℕ) where
  inserted_at : (e : K × ℕ) (es : List (K × ℕ)) (o : Ordering) → slice_cmp nat_cmp (bytes k) (bytes e.0) ≡ o
      → noted bytes x (insert_entry (key_order bytes) es k v) ≡ cond (bytes_eq x (bytes k)) (Some v) (noted bytes x es)
      → noted bytes x (match_ordering o ((k, v) ∷ (e ∷ es)) ((e.0, v) ∷ es) (e ∷ insert_entry (key_order bytes) es k v))
      ≡ cond (bytes_eq x (bytes k)) (Some v) (noted bytes x (e ∷ es))
  inserted_at e es Less h ih = ap (λ (b : Bool). cond b (Some v) (noted bytes x (e ∷ es))) (is_eq-slice_cmp x (bytes k))
  inserted_at e es Equal h ih =
      let same : bytes k ≡ bytes e.0 = (bytes_eq-Decides (bytes k) (bytes e.0)).0 (sym (is_eq-slice_cmp (bytes k) (bytes e.0)) ∙ ap is_eq h) in
      let test : is_eq (slice_cmp nat_cmp x (bytes e.0)) ≡ bytes_eq x (bytes k) = is_eq-slice_cmp x (bytes e.0) ∙ ap (bytes_eq x) (sym same) in
      twice (is_eq (slice_cmp nat_cmp x (bytes e.0))) (bytes_eq x (bytes k)) test (Some e.1) (Some v) (noted bytes x es)
  inserted_at e es Greater h ih =
      let never : is_eq (slice_cmp nat_cmp x (bytes e.0)) ≡ true → bytes_eq x (bytes k) ≡ true → ⊥ = λ a b.
      let here : x ≡ bytes e.0 = (bytes_eq-Decides x (bytes e.0)).0 (sym (is_eq-slice_cmp x (bytes e.0)) ∙ a) in
      let there : x ≡ bytes k = (bytes_eq-Decides x (bytes k)).0 b in
      let same : bytes_eq (bytes k) (bytes e.0) ≡ true = (bytes_eq-Decides (bytes k) (bytes e.0)).1 (sym there ∙ here) in
      let not_same : bytes_eq (bytes k) (bytes e.0) ≡ false = sym (is_eq-slice_cmp (bytes k) (bytes e.0)) ∙ ap is_eq h in
      cc in
      ap (λ (l : Option ℕ). cond (is_eq (slice_cmp nat_cmp x (bytes e.0))) (Some e.1) l) ih
      ∙ apart (is_eq (slice_cmp nat_cmp x (bytes e.0))) (bytes_eq x (bytes k)) never (Some e.1) (Some v) (noted bytes x es)

  -- what the map has once it has one name more
  pub inserted : (es : List (K × ℕ)) → noted bytes x (insert_entry (key_order bytes) es k v) ≡ cond (bytes_eq x (bytes k)) (Some v) (noted bytes x es)
  inserted [] = ap (λ (b : Bool). cond b (Some v) None) (is_eq-slice_cmp x (bytes k))
  inserted (e ∷ es) = inserted_at e es (slice_cmp nat_cmp (bytes k) (bytes e.0)) refl (inserted es)

none_behind : (o : Option ℕ) → option_map suc o ≡ None → o ≡ None
none_behind None e = refl
none_behind (Some i) e = absurd cc

-- the places once a new name is last
module _ (x y : List ℕ) where
  last_step : (n : List ℕ) (ns : List (List ℕ)) (a b c : Bool) → bytes_eq y n ≡ a → bytes_eq x n ≡ b → bytes_eq x y ≡ c →
      cond a (Some 0) (option_map suc (place_of ns y)) ≡ None →
      (place_of ns y ≡ None → place_of (ns ++ y ∷ []) x ≡ cond c (Some (length ns)) (place_of ns x)) →
      cond b (Some 0) (option_map suc (place_of (ns ++ y ∷ []) x)) ≡ cond c (Some (suc (length ns))) (cond b (Some 0) (option_map suc (place_of ns x)))
  last_step n ns true b c d e f h i = absurd cc
  last_step n ns false true true d e f h i =
      let there : x ≡ n = (bytes_eq-Decides x n).0 e in
      let here : x ≡ y = (bytes_eq-Decides x y).0 f in
      let same : bytes_eq y n ≡ true = (bytes_eq-Decides y n).1 (sym here ∙ there) in
      absurd cc
  last_step n ns false true false d e f h i = refl
  last_step n ns false false true d e f h i = ap (option_map suc) (i (none_behind (place_of ns y) h))
  last_step n ns false false false d e f h i = ap (option_map suc) (i (none_behind (place_of ns y) h))

  pub last_place : (ns : List (List ℕ)) → place_of ns y ≡ None → place_of (ns ++ y ∷ []) x ≡ cond (bytes_eq x y) (Some (length ns)) (place_of ns x)
  last_place [] h = refl
  last_place (n ∷ ns) h = last_step n ns (bytes_eq y n) (bytes_eq x n) (bytes_eq x y) refl refl refl h (last_place ns)

-- a map that has the place of each name has it once a new name is last
pub has_more : {K : Type 0} (bytes : K → List ℕ) (es : List (K × ℕ)) (ns : List (List ℕ)) (k : K) → place_of ns (bytes k) ≡ None → HasPlaces bytes es ns →
    HasPlaces bytes (insert_entry (key_order bytes) es k (length ns)) (ns ++ bytes k ∷ [])
has_more bytes es ns k new h x =
    inserted bytes x k (length ns) es
    ∙ ap (λ o. cond (bytes_eq x (bytes k)) (Some (length ns)) o) (h x)
    ∙ sym (last_place x (bytes k) ns new)

-- the same where the names are owned
pub added : (es fs : List (Vec ℕ Global × ℕ)) (ns ms : List (Vec ℕ Global)) (k n : Vec ℕ Global) (place : ℕ) (name : List ℕ) →
    fs ≡ insert_entry (key_order (λ j. j.items)) es k place → ms ≡ ns ++ n ∷ [] → place ≡ length ns → k.items ≡ name → n.items ≡ name →
    place_of (map (λ j. j.items) ns) name ≡ None → HasPlaces (λ j. j.items) es (map (λ j. j.items) ns) → HasPlaces (λ j. j.items) fs (map (λ j. j.items) ms)
added es fs ns ms k n place name e1 e2 e3 e4 e5 new h x =
    let names : List (List ℕ) = map (λ (j : Vec ℕ Global). j.items) ns in
    let last : map (λ (j : Vec ℕ Global). j.items) ms ≡ names ++ name ∷ [] =
    ap (map (λ (j : Vec ℕ Global). j.items)) e2 ∙ map-append (λ (j : Vec ℕ Global). j.items) ns (n ∷ []) ∙ ap (λ m. names ++ m ∷ []) e5 in
    ap (noted (λ j. j.items) x) (e1 ∙ ap (insert_entry (key_order (λ j. j.items)) es k) (e3 ∙ sym (length-map ns (λ (j : Vec ℕ Global). j.items))))
    ∙ has_more (λ j. j.items) es names k (ap (place_of names) e4 ∙ new) h x
    ∙ ap (λ l. place_of l x) (ap (λ m. names ++ m ∷ []) e4 ∙ sym last)
