-- Names with how often each is in a list.
use Rattle.std.specs.Prelude.{ℕ, ◌+◌, List, [], ◌∷◌, ◌++◌, if◌then◌else◌}
use Rattle.std.specs.Option.{unwrap_or}
use Rattle.std.specs.Str.{bytes_eq}
use Rattle.std.specs.Map.{lookup}
use Rattle.std.specs.Ordering.{is_eq, nat_cmp}
use Rattle.std.specs.Cmp.Lexicographic.{slice_cmp}

-- the names from the last on
abbrev pub newest_first : {K : Type 0} → (K → List ℕ) → List K → List (List ℕ)
newest_first bytes [] = []
newest_first bytes (k ∷ ks) = newest_first bytes ks ++ bytes k ∷ []

abbrev pub occurrences : List ℕ → List (List ℕ) → ℕ
occurrences x [] = 0
occurrences x (n ∷ ns) = if bytes_eq x n then 1 + occurrences x ns else occurrences x ns

-- what an ordered map has for a name, or 0
abbrev pub count : {K : Type 0} → (K → List ℕ) → List ℕ → List (K × ℕ) → ℕ
count bytes x es = unwrap_or (lookup (λ k. is_eq (slice_cmp nat_cmp x (bytes k))) es) 0
