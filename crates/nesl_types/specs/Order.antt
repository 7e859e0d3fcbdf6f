-- The places of names.
use Rattle.std.specs.Prelude.{◌≡◌, ℕ, suc, List, [], ◌∷◌, Option, Some, None, option_map, if◌then◌else◌}
use Rattle.std.specs.Map.{lookup}
use Rattle.std.specs.Ordering.{is_eq, nat_cmp}
use Rattle.std.specs.Cmp.Lexicographic.{slice_cmp}
use Rattle.std.specs.Str.{bytes_eq}

-- a name's place: that of the first name that is the same
abbrev pub place_of : List (List ℕ) → List ℕ → Option ℕ
place_of [] x = None
place_of (y ∷ ys) x = if bytes_eq x y then Some 0 else option_map suc (place_of ys x)

-- what a map in order has for a name
abbrev pub noted : {K : Type 0} → (K → List ℕ) → List ℕ → List (K × ℕ) → Option ℕ
noted bytes x es = lookup (λ k. is_eq (slice_cmp nat_cmp x (bytes k))) es

-- the map has the place of each name, and no other name
abbrev pub HasPlaces : {K : Type 0} → (K → List ℕ) → List (K × ℕ) → List (List ℕ) → Type 0
HasPlaces bytes es names = (x : List ℕ) → noted bytes x es ≡ place_of names x
