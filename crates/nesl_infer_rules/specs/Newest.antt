-- Local names, the first few of which are sought one by one. A map has the newest of each name among the others.
use Rattle.std.specs.Prelude.{◌≡◌, ℕ, Bool, true, List, [], ◌∷◌, Option, Some, None, map, drop, reverse, if◌then◌else◌}
use Rattle.std.specs.Option.{unwrap_or}
use Rattle.std.specs.Map.{lookup}
use Rattle.std.specs.Ordering.{is_eq, nat_cmp}
use Rattle.std.specs.Cmp.Lexicographic.{slice_cmp}
use Rattle.nesl_infer_rules.specs.declared.state.Local.{Local}
use Rattle.nesl_infer_rules.specs.declared.locals.Entry.{Entry}
use Rattle.nesl_infer_rules.specs.Typing.{Key, is_name}
use Rattle.nesl_infer_rules.specs.Steps.{key_of}

abbrev pub locals_of : List Entry → List Local
locals_of es = map (λ e. e.local) es

-- the variable of the newest that passes the test; the newest is the first
abbrev pub newest_variable : (Key → Bool) → List Entry → Option ℕ
newest_variable test [] = None
newest_variable test (e ∷ es) = if test (key_of e.local.key) then Some e.local.variable else newest_variable test es

-- those that the map has, the newest first
abbrev pub mapped : List Entry → List Entry
mapped es = reverse (drop 8 es)

-- each has the variable of the one that it hides; the newest is the first
abbrev pub AreHidden : List Entry → Type 0
AreHidden [] = Unit {0}
AreHidden (e ∷ es) =
    ((x : List ℕ) → is_name x (key_of e.local.key) ≡ true → e.hidden ≡ newest_variable (is_name x) es) × AreHidden es

-- what a map has for a name
abbrev pub noted : {K : Type 0} → (K → List ℕ) → List ℕ → List (K × Option ℕ) → Option ℕ
noted bytes x es = unwrap_or (lookup (λ k. is_eq (slice_cmp nat_cmp x (bytes k))) es) None

-- the map has the newest variable of each name among those that it has, the newest first
abbrev pub AreNoted : {K : Type 0} → (K → List ℕ) → List (K × Option ℕ) → List Entry → Type 0
AreNoted bytes ns es = (x : List ℕ) → noted bytes x ns ≡ newest_variable (is_name x) es
