-- Sequences that are written to.
use Rattle.std.specs.Prelude.{ℕ, zero, suc, ℤ, Bool, false, ◌||◌, List, length, map, zip, reverse, Option, None}
use Rattle.std.specs.Prelude.{is_some, option_map, option_and_then, unwrap_or, slice_get}
use Rattle.std.specs.List.{filter_map, enumerate_from}
use Rattle.nesl_values.specs.Tree.{ValueTree, sequence}
use Rattle.nesl_values.specs.Parts.{as_int, as_bool, as_char, as_pair}
use Rattle.nesl_seqs_base.specs.Outcome.{Outcome, gives}
use Rattle.nesl_seqs_base.specs.Places.{place_of, at_places, arrival}

-- a number, and what is to be written at the place that it names
abbrev pub int_and_tree : ValueTree → Option (ℤ × ValueTree)
int_and_tree t = option_and_then (λ p. option_map (λ z. (z, p.1)) (as_int p.0)) (as_pair t)

-- at each place the last that was written there, or else the element
abbrev pub overwritten : List ValueTree → List (ℕ × ValueTree) → List ValueTree
overwritten ts ws = map (λ e. unwrap_or (arrival (reverse ws) e.0) e.1) (enumerate_from 0 ts)

-- `v <- p`: the pairs are written in order, where each index is a place
abbrev pub written : List ValueTree → List (ℤ × ValueTree) → Outcome
written ts ps =
    at_places (length ts) (map (λ p. p.0) ps) (λ ks. gives (sequence (overwritten ts (zip ks (map (λ p. p.1) ps)))))

-- the place and what is written there, where the pair names one
abbrev pub write_of : ℕ → ValueTree → Option (ℕ × ValueTree)
write_of n t = option_and_then (λ p. option_map (λ k. (k, p.1)) (place_of n p.0)) (as_pair t)

-- what is written, in order
abbrev pub writes_of : ℕ → List ValueTree → List (ℕ × ValueTree)
writes_of n ts = filter_map (write_of n) ts

-- what the pair of that number, counted from 1, writes
abbrev pub told_by : List ValueTree → ℕ → Option ValueTree
told_by ts zero = None
told_by ts (suc i) = option_and_then (λ t. option_map (λ p. p.1) (as_pair t)) (slice_get ts i)

-- whether a tree is a leaf
abbrev pub is_leaf : ValueTree → Bool
is_leaf t = is_some (as_int t) || is_some (as_bool t) || is_some (as_char t)

-- whether a pair writes a leaf
abbrev pub writes_leaf : ValueTree → Bool
writes_leaf t = unwrap_or (option_map (λ p. is_leaf p.1) (as_pair t)) false
