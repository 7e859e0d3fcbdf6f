-- Names noted in an ordered map.
use Rattle.std.proofs.Common.{◌≡◌, ℕ, Bool, true, false, cond, List, [], ◌∷◌, Option, Some, None, refl, sym, ap, ◌∙◌, Vec, Global}
use Rattle.std.specs.Prelude.{Result, Ok, Err, OnOk, option_map, if◌then◌else◌}
use Rattle.std.specs.Str.{bytes_eq}
use Rattle.std.specs.Map.{lookup}
use Rattle.std.specs.Ordering.{is_eq, nat_cmp, match_ordering}
use Rattle.std.specs.Cmp.Lexicographic.{slice_cmp}
use Rattle.std.specs.declared.cmp.Ordering.{Ordering}
use Rattle.std.specs.declared.cmp.Ordering.TheVariants.{Less, Equal, Greater}
use Rattle.std.specs.BTreeMap.{insert_entry}
use Rattle.std.proofs.lemmas.Map.Text.{is_eq-slice_cmp}
use Rattle.std.proofs.lemmas.Slice.Eq.{bytes_eq-Decides}
use Rattle.nesl_eval_code.specs.declared.code.Step.{Step}
use Rattle.nesl_eval_code.specs.declared.names.NamePlace.{NamePlace}
use Rattle.nesl_eval_meaning.specs.Names.{Name}
use Rattle.nesl_eval_code.specs.Noted.{noted_at}

-- the order of names by their bytes
abbrev pub key_order : {K : Type 0} → (K → List ℕ) → K → K → Ordering
key_order bytes j k = slice_cmp nat_cmp (bytes j) (bytes k)

twice : {O : Type 0} (a b : Bool) → a ≡ b → (p q l : O) → cond a q l ≡ cond b q (cond a p l)
twice true b h p q l = ap (λ (t : Bool). cond t q p) h
twice false b h p q l = ap (λ (t : Bool). cond t q l) h

apart : {O : Type 0} (a b : Bool) → (a ≡ true → b ≡ true → ⊥) → (p q l : O) → cond a p (cond b q l) ≡ cond b q (cond a p l)
apart true true h p q l = absurd (h refl refl)
apart true false h p q l = refl
apart false true h p q l = refl
apart false false h p q l = refl

module _ {K X : Type 0} (bytes : K → List ℕ) (x : List ℕ) (k : K) (v : X) where
  inserted_at : (e : K × X) (es : List (K × X)) (o : Ordering) → slice_cmp nat_cmp (bytes k) (bytes e.0) ≡ o
      → lookup (λ j. is_eq (slice_cmp nat_cmp x (bytes j))) (insert_entry (key_order bytes) es k v) ≡ cond (bytes_eq x (bytes k)) (Some v) (lookup (λ j. is_eq (slice_cmp nat_cmp x (bytes j))) es)
      → lookup (λ j. is_eq (slice_cmp nat_cmp x (bytes j))) (match_ordering o ((k, v) ∷ (e ∷ es)) ((e.0, v) ∷ es) (e ∷ insert_entry (key_order bytes) es k v))
      ≡ cond (bytes_eq x (bytes k)) (Some v) (lookup (λ j. is_eq (slice_cmp nat_cmp x (bytes j))) (e ∷ es))
  inserted_at e es Less h ih = ap (λ (b : Bool). cond b (Some v) (lookup (λ j. is_eq (slice_cmp nat_cmp x (bytes j))) (e ∷ es))) (is_eq-slice_cmp x (bytes k))
  inserted_at e es Equal h ih =
      let same : bytes k ≡ bytes e.0 = (bytes_eq-Decides (bytes k) (bytes e.0)).0 (sym (is_eq-slice_cmp (bytes k) (bytes e.0)) ∙ ap is_eq h) in
      let test : is_eq (slice_cmp nat_cmp x (bytes e.0)) ≡ bytes_eq x (bytes k) = is_eq-slice_cmp x (bytes e.0) ∙ ap (bytes_eq x) (sym same) in
      twice (is_eq (slice_cmp nat_cmp x (bytes e.0))) (bytes_eq x (bytes k)) test (Some e.1) (Some v) (lookup (λ j. is_eq (slice_cmp nat_cmp x (bytes j))) es)
  inserted_at e es Greater h ih =
      let never : is_eq (slice_cmp nat_cmp x (bytes e.0)) ≡ true → bytes_eq x (bytes k) ≡ true → ⊥ = λ a b.
      let here : x ≡ bytes e.0 = (bytes_eq-Decides x (bytes e.0)).0 (sym (is_eq-slice_cmp x (bytes e.0)) ∙ a) in
      let there : x ≡ bytes k = (bytes_eq-Decides x (bytes k)).0 b in
      let same : bytes_eq (bytes k) (bytes e.0) ≡ true = (bytes_eq-Decides (bytes k) (bytes e.0)).1 (sym there ∙ here) in
      let not_same : bytes_eq (bytes k) (bytes e.0) ≡ false = sym (is_eq-slice_cmp (bytes k) (bytes e.0)) ∙ ap is_eq h in
      cc in
      ap (λ (l : Option X). cond (is_eq (slice_cmp nat_cmp x (bytes e.0))) (Some e.1) l) ih
      ∙ apart (is_eq (slice_cmp nat_cmp x (bytes e.0))) (bytes_eq x (bytes k)) never (Some e.1) (Some v) (lookup (λ j. is_eq (slice_cmp nat_cmp x (bytes j))) es)

  pub inserted : (es : List (K × X))
      → lookup (λ j. is_eq (slice_cmp nat_cmp x (bytes j))) (insert_entry (key_order bytes) es k v) ≡ cond (bytes_eq x (bytes k)) (Some v) (lookup (λ j. is_eq (slice_cmp nat_cmp x (bytes j))) es)
  inserted [] = ap (λ (b : Bool). cond b (Some v) None) (is_eq-slice_cmp x (bytes k))
  inserted (e ∷ es) = inserted_at e es (slice_cmp nat_cmp (bytes k) (bytes e.0)) refl (inserted es)

-- what is noted once a name is
pub noted_more : (old new : List (Vec ℕ Global × NamePlace)) (k : Vec ℕ Global) (p : NamePlace) → new ≡ insert_entry (key_order (λ j. j.items)) old k p →
    (name : Name) (i : ℕ) (path : List Step) → k.items ≡ name → p.index ≡ i → p.steps.items ≡ path →
    (x : Name) → noted_at new x ≡ (if bytes_eq x name then Some (i, path) else noted_at old x)
noted_more old new k p e name i path a b c x =
    ap (λ es. noted_at es x) e
    ∙ ap (option_map {U = ℕ × List Step} (λ (q : NamePlace). (q.index, q.steps.items))) (inserted (λ j. j.items) x k p old)
    ∙ by (bytes_eq x k.items) ∙ ap (λ y. if bytes_eq x y then Some (i, path) else noted_at old x) a
  where
    here : option_map {U = ℕ × List Step} (λ (q : NamePlace). (q.index, q.steps.items)) (Some p) ≡ Some (i, path)
    here = ap (λ (j : ℕ). Some (j, p.steps.items)) b ∙ ap (λ (y : List Step). Some (i, y)) c

    by : (t : Bool) → option_map {U = ℕ × List Step} (λ (q : NamePlace). (q.index, q.steps.items)) (cond t (Some p) (lookup (λ j. is_eq (slice_cmp nat_cmp x j.items)) old))
        ≡ (if t then Some (i, path) else noted_at old x)
    by true = here
    by false = refl
