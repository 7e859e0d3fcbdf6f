-- Local names, found by a map or one by one.
use Rattle.std.proofs.Common.{◌≡◌, ◌<◌, ◌≤◌, ◌+◌, ◌-◌, ◌++◌, ℕ, Bool, true, false, cond, List, [], ◌∷◌, Option, Some, None, length, map, take, drop, reverse, get_or, refl, sym, ap, ◌∙◌, subst, arith}
use Rattle.std.specs.Prelude.{All, MatchOption, option_map, if◌then◌else◌}
use Rattle.std.specs.Option.{unwrap_or}
use Rattle.std.specs.Str.{bytes_eq}
use Rattle.std.specs.Map.{lookup}
use Rattle.std.specs.Ordering.{is_eq, nat_cmp}
use Rattle.std.specs.Cmp.Lexicographic.{slice_cmp}
use Rattle.std.specs.BTreeMap.{insert_entry}
use Rattle.std.proofs.lemmas.List.{reverse-append, map-append, take_more, take-append-drop, drop-append-le}
use Rattle.std.proofs.lemmas.List.Elements.{All-head, All-tail}
use Rattle.std.proofs.lemmas.List.Sorted.{IsPermutation-reverse}
use Rattle.std.proofs.lemmas.Map.Views.{All-map-IsPermutation}
use Rattle.std.proofs.lemmas.Slice.Eq.{bytes_eq-Decides}
use Rattle.nesl_infer_names.proofs.Scoping.{key_order, inserted}
use Rattle.nesl_types_shared.specs.Term.{Term}
use Rattle.nesl_infer_rules.specs.declared.state.Local.{Local}
use Rattle.nesl_infer_rules.specs.declared.locals.Entry.{Entry}
use Rattle.nesl_infer_rules.specs.Typing.{Key, name, is_name, LocalTypes, newest_type}
use Rattle.nesl_infer_rules.specs.Steps.{key_of, scope_at, AreLocalsBelow}
use Rattle.nesl_infer_rules.specs.Newest.{locals_of, newest_variable, mapped, AreHidden, AreNoted, noted}

-- The map.

set_step : (b : Bool) (v : Option ℕ) (l : Option (Option ℕ)) → unwrap_or (cond b (Some v) l) None ≡ (if b then v else unwrap_or l None)
set_step true v l = refl
set_step false v l = refl

pub noted-set : {K : Type 0} (bytes : K → List ℕ) (es : List (K × Option ℕ)) (k : K) (v : Option ℕ) (key : Key) → key ≡ name (bytes k) → (x : List ℕ)
    → noted bytes x (insert_entry (key_order bytes) es k v) ≡ (if is_name x key then v else noted bytes x es)
noted-set bytes es k v key h x =
    ap (λ (o : Option (Option ℕ)). unwrap_or o None) (inserted bytes x k v es)
    ∙ set_step (bytes_eq x (bytes k)) v (lookup (λ j. is_eq (slice_cmp nat_cmp x (bytes j))) es)
    ∙ ap (λ (y : Key). if is_name x y then v else noted bytes x es) (sym h)

-- The order of the entries.

pub newest-first : (es : List Entry) (e : Entry) → reverse (es ++ e ∷ []) ≡ e ∷ reverse es
newest-first es e = reverse-append es (e ∷ [])

pub mapped-push : (es : List Entry) (e : Entry) → 8 ≤ length es → mapped (es ++ e ∷ []) ≡ e ∷ mapped es
mapped-push es e h = ap (λ (ds : List Entry). reverse ds) (drop-append-le 8 es (e ∷ []) h) ∙ newest-first (drop 8 es) e

pub mapped-split : (es : List Entry) → reverse es ≡ mapped es ++ reverse (take 8 es)
mapped-split es = ap (λ (ds : List Entry). reverse ds) (sym (take-append-drop 8 es)) ∙ reverse-append (take 8 es) (drop 8 es)

-- The newest.

some_step : (b : Bool) (u v : ℕ) (o p : Option ℕ) → (if b then Some u else o) ≡ Some v → (o ≡ Some v → p ≡ Some v) → (if b then Some u else p) ≡ Some v
some_step true u v o p e h = e
some_step false u v o p e h = h e

none_step : (b : Bool) (u : ℕ) (o p q : Option ℕ) → (if b then Some u else o) ≡ None → (o ≡ None → p ≡ q) → (if b then Some u else p) ≡ q
none_step true u o p q e h = cc
none_step false u o p q e h = h e

module _ (test : Key → Bool) where
  pub newest-here : (es fs : List Entry) (v : ℕ) → newest_variable test es ≡ Some v → newest_variable test (es ++ fs) ≡ Some v
  newest-here [] fs v h = cc
  newest-here (e ∷ es) fs v h = some_step (test (key_of e.local.key)) e.local.variable v (newest_variable test es) (newest_variable test (es ++ fs)) h (newest-here es fs v)

  pub newest-later : (es fs : List Entry) → newest_variable test es ≡ None → newest_variable test (es ++ fs) ≡ newest_variable test fs
  newest-later [] fs h = refl
  newest-later (e ∷ es) fs h = none_step (test (key_of e.local.key)) e.local.variable (newest_variable test es) (newest_variable test (es ++ fs)) (newest_variable test fs) h (newest-later es fs)

  -- the last of the first n
  newest-last : (es : List Entry) (n : ℕ) (d : Entry) → 0 < n → n ≤ length es → newest_variable test (reverse (take n es))
      ≡ (if test (key_of (get_or es (n - 1) d).local.key) then Some (get_or es (n - 1) d).local.variable else newest_variable test (reverse (take (n - 1) es)))
  newest-last es n d p b =
      let e : n - 1 + 1 ≡ n = omega arith in
      ap (λ (k : ℕ). newest_variable test (reverse (take k es))) (sym e)
      ∙ ap (λ (fs : List Entry). newest_variable test (reverse fs)) (take_more es (n - 1) d (omega arith))
      ∙ ap (newest_variable test) (newest-first (take (n - 1) es) (get_or es (n - 1) d))

  pub found_last : (es : List Entry) (n : ℕ) (d : Entry) → 0 < n → n ≤ length es → test (key_of (get_or es (n - 1) d).local.key) ≡ true →
      Some (get_or es (n - 1) d).local.variable ≡ newest_variable test (reverse (take n es))
  found_last es n d p b h =
      sym (newest-last es n d p b ∙ ap (λ (t : Bool). if t then Some (get_or es (n - 1) d).local.variable else newest_variable test (reverse (take (n - 1) es))) h)

  pub found_rest : (es : List Entry) (n : ℕ) (d : Entry) → 0 < n → n ≤ length es → test (key_of (get_or es (n - 1) d).local.key) ≡ false →
      newest_variable test (reverse (take (n - 1) es)) ≡ newest_variable test (reverse (take n es))
  found_rest es n d p b h =
      sym (newest-last es n d p b ∙ ap (λ (t : Bool). if t then Some (get_or es (n - 1) d).local.variable else newest_variable test (reverse (take (n - 1) es))) h)

  pub newest-split : (es : List Entry) (v : ℕ) → newest_variable test (mapped es) ≡ Some v → newest_variable test (reverse es) ≡ Some v
  newest-split es v h = ap (newest_variable test) (mapped-split es) ∙ newest-here (mapped es) (reverse (take 8 es)) v h

  pub newest-few : (es : List Entry) → newest_variable test (mapped es) ≡ None → newest_variable test (reverse es) ≡ newest_variable test (reverse (take 8 es))
  newest-few es h = ap (newest_variable test) (mapped-split es) ∙ newest-later (mapped es) (reverse (take 8 es)) h

-- What they are the variables of.

abbrev typed : (ℕ → Term) → Entry → Key × Term
typed s e = (key_of e.local.key, s e.local.variable)

scope-reverse : (s : ℕ → Term) (es : List Entry) → scope_at s (locals_of es) ≡ map (typed s) (reverse es)
scope-reverse s [] = refl
scope-reverse s (e ∷ es) =
    ap (λ (ts : LocalTypes). ts ++ typed s e ∷ []) (scope-reverse s es)
    ∙ sym (map-append (typed s) (reverse es) (e ∷ []))
    ∙ ap (map (typed s)) (sym (reverse-append (e ∷ []) es))

type_step : (b : Bool) (s : ℕ → Term) (u : ℕ) (o : Option ℕ) (t : Option Term) → option_map s o ≡ t → option_map s (if b then Some u else o) ≡ (if b then Some (s u) else t)
type_step true s u o t h = refl
type_step false s u o t h = h

type-newest : (s : ℕ → Term) (test : Key → Bool) (es : List Entry) → option_map s (newest_variable test es) ≡ newest_type test (map (typed s) es)
type-newest s test [] = refl
type-newest s test (e ∷ es) =
    type_step (test (key_of e.local.key)) s e.local.variable (newest_variable test es) (newest_type test (map (typed s) es)) (type-newest s test es)

pub newest-type : (s : ℕ → Term) (test : Key → Bool) (es : List Entry) → option_map s (newest_variable test (reverse es)) ≡ newest_type test (scope_at s (locals_of es))
newest-type s test es = type-newest s test (reverse es) ∙ ap (newest_type test) (sym (scope-reverse s es))

below_step : (b : Bool) (u v n : ℕ) (o : Option ℕ) → (if b then Some u else o) ≡ Some v → u < n → (o ≡ Some v → v < n) → v < n
below_step true u v n o e h k = let same : u ≡ v = cc in omega arith
below_step false u v n o e h k = k e

below-newest : (test : Key → Bool) (n v : ℕ) (es : List Entry) → newest_variable test es ≡ Some v → All (λ (l : Local). l.variable < n) (locals_of es) → v < n
below-newest test n v [] e h = cc
below-newest test n v (f ∷ es) e h =
    below_step (test (key_of f.local.key)) f.local.variable v n (newest_variable test es) e (All-head (λ (l : Local). l.variable < n) f.local (locals_of es) h)
    (λ k. below-newest test n v es k (All-tail (λ (l : Local). l.variable < n) f.local (locals_of es) h))

pub newest-below : (test : Key → Bool) (n v : ℕ) (es : List Entry) → newest_variable test (reverse es) ≡ Some v → AreLocalsBelow n (locals_of es) → v < n
newest-below test n v es e h =
    below-newest test n v (reverse es) e (All-map-IsPermutation (λ (f : Entry). f.local) (λ (l : Local). l.variable < n) es (reverse es) (IsPermutation-reverse es) h)

pub result-below : (test : Key → Bool) (es : List Entry) (ls : List Local) (r : Option ℕ) → r ≡ newest_variable test (reverse es) → locals_of es ≡ ls
    → MatchOption r (Unit {0}) (λ v. (n : ℕ) → AreLocalsBelow n ls → v < n)
result-below test es ls None e h = tt
result-below test es ls (Some v) e h = λ n b. newest-below test n v es (sym e) (subst (AreLocalsBelow n) (sym h) b)

-- A local more, or one less.

restore_step : (b : Bool) (was hidden o : Option ℕ) (u : ℕ) → (b ≡ true → hidden ≡ o) → was ≡ (if b then Some u else o) → (if b then hidden else was) ≡ o
restore_step true was hidden o u h e = h refl
restore_step false was hidden o u h e = e

module _ {K : Type 0} (bytes : K → List ℕ) (old : List (K × Option ℕ)) where
  pub noted-push : (new : List (K × Option ℕ)) (es : List Entry) (e : Entry) → 8 ≤ length es → ((x : List ℕ) → noted bytes x new ≡ (if is_name x (key_of e.local.key) then Some e.local.variable else noted bytes x old))
      → AreNoted bytes old (mapped es) → AreNoted bytes new (mapped (es ++ e ∷ []))
  noted-push new es e h set i = λ x.
      set x ∙ ap (λ (o : Option ℕ). if is_name x (key_of e.local.key) then Some e.local.variable else o) (i x)
      ∙ ap (newest_variable (is_name x)) (sym (mapped-push es e h))

  pub hidden-push : (es : List Entry) (e : Entry) → 8 ≤ length es → ((x : List ℕ) → is_name x (key_of e.local.key) ≡ true → e.hidden ≡ noted bytes x old)
      → AreNoted bytes old (mapped es) → AreHidden (mapped es) → AreHidden (mapped (es ++ e ∷ []))
  hidden-push es e h was i k = subst AreHidden (sym (mapped-push es e h)) ((λ x t. was x t ∙ i x), k)

  pub noted-pop : (new : List (K × Option ℕ)) (es : List Entry) (e : Entry) → 8 ≤ length es → ((x : List ℕ) → noted bytes x new ≡ (if is_name x (key_of e.local.key) then e.hidden else noted bytes x old))
      → AreNoted bytes old (mapped (es ++ e ∷ [])) → AreHidden (mapped (es ++ e ∷ [])) → AreNoted bytes new (mapped es)
  noted-pop new es e h set i k = λ x.
      set x
      ∙ restore_step (is_name x (key_of e.local.key)) (noted bytes x old) e.hidden (newest_variable (is_name x) (mapped es)) e.local.variable
      ((subst AreHidden (mapped-push es e h) k).0 x) (i x ∙ ap (newest_variable (is_name x)) (mapped-push es e h))

  pub never_absent : (es : List Entry) (e : Entry) → 8 ≤ length es → AreNoted bytes old (mapped (es ++ e ∷ []))
      → (x : List ℕ) → key_of e.local.key ≡ name x → noted bytes x old ≡ None → ⊥
  never_absent es e h i x k a =
      let here : is_name x (key_of e.local.key) ≡ true = ap (is_name x) k ∙ (bytes_eq-Decides x x).1 refl in
      let there : noted bytes x old ≡ Some e.local.variable =
      i x ∙ ap (newest_variable (is_name x)) (mapped-push es e h)
      ∙ ap (λ (t : Bool). if t then Some e.local.variable else newest_variable (is_name x) (mapped es)) here in
      cc

pub hidden-pop : (es : List Entry) (e : Entry) → 8 ≤ length es → AreHidden (mapped (es ++ e ∷ [])) → AreHidden (mapped es)
hidden-pop es e h k = (subst AreHidden (mapped-push es e h) k).1
