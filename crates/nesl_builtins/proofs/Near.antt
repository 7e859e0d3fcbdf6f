-- A name is found among those that begin with letters near its own.
use Rattle.std.proofs.Common.{◌≡◌, ℕ, ◌<◌, ◌≤◌, Bool, true, false, not, ◌&&◌, nat_eq, nat_lt, List, [], ◌∷◌, length, if◌then◌else◌, refl, sym, ap, ◌∙◌, arith}
use Rattle.std.proofs.lemmas.Bool.{eqb-true, true≢false, lt-ltb, le-ltb, and_from, not_from_false}
use Rattle.std.specs.Prelude.{Some, None}
use Rattle.std.specs.Str.{bytes_eq}
use Rattle.nesl_builtins.specs.Named.{look_up, builtin_named}

-- whether a letter is from the one to before the other
abbrev pub is_near : ℕ → ℕ → ℕ → Bool
is_near low high b = nat_lt b high && not (nat_lt b low)

abbrev pub begins_near : ℕ → ℕ → List ℕ → Bool
begins_near low high [] = false
begins_near low high (b ∷ bs) = is_near low high b

-- the entries whose names begin so
abbrev pub near : {X : Type 0} → ℕ → ℕ → List (List ℕ × X) → List (List ℕ × X)
near low high [] = []
near low high (e ∷ es) = if begins_near low high e.0 then e ∷ near low high es else near low high es

module _ {X : Type 0} (low high b : ℕ) (bs : List ℕ) (is : is_near low high b ≡ true) where
  -- another letter
  apart : (c : ℕ) (cs : List ℕ) (v : X) (es : List (List ℕ × X)) → is_near low high c ≡ false →
      look_up es (b ∷ bs) ≡ look_up (near low high es) (b ∷ bs) → (r : Bool) → nat_eq b c ≡ r →
      (if r && bytes_eq bs cs then Some v else look_up es (b ∷ bs)) ≡ look_up (near low high es) (b ∷ bs)
  apart c cs v es out same true q =
      absurd (true≢false (sym is ∙ ap (is_near low high) (eqb-true b c q) ∙ out))
  apart c cs v es out same false q = same

  one : (c : ℕ) (cs : List ℕ) (v : X) (es : List (List ℕ × X)) →
      look_up es (b ∷ bs) ≡ look_up (near low high es) (b ∷ bs) → (r : Bool) → is_near low high c ≡ r →
      look_up ((c ∷ cs, v) ∷ es) (b ∷ bs)
      ≡ look_up (if r then (c ∷ cs, v) ∷ near low high es else near low high es) (b ∷ bs)
  one c cs v es same true q = ap (λ t. if bytes_eq (b ∷ bs) (c ∷ cs) then Some v else t) same
  one c cs v es same false q = apart c cs v es q same (nat_eq b c) refl

  pub found_near : (es : List (List ℕ × X)) → look_up es (b ∷ bs) ≡ look_up (near low high es) (b ∷ bs)
  found_near [] = refl
  found_near (([], v) ∷ es) = found_near es
  found_near ((c ∷ cs, v) ∷ es) = one c cs v es (found_near es) (is_near low high c) refl

-- a name whose first bytes are known
pub begun : {X : Type 0} (low high b : ℕ) (bs : List ℕ) (es : List (List ℕ × X)) → low ≤ b → b < high →
    look_up es (b ∷ bs) ≡ look_up (near low high es) (b ∷ bs)
begun low high b bs es from to =
    let above : not (nat_lt b low) ≡ true = not_from_false (nat_lt b low) (le-ltb b low from) in
    found_near low high b bs (and_from (nat_lt b high) (not (nat_lt b low)) (lt-ltb b high to) above) es

-- the empty name is no function's
pub unnamed : (xs : List ℕ) → length xs < 1 → None ≡ builtin_named xs
unfolding builtin_named
unnamed [] few = refl
unnamed (x ∷ xs) few = absurd (omega arith)
