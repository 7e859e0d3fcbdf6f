-- What the functions evaluate to, in other words.
use Rattle.std.specs.Prelude.{◌≡◌, ◌↔◌, ℕ, ◌+◌, ◌-◌, ◌*◌, ◌^◌, ◌<◌, ◌≤◌, ℤ, pos, ◌+ℤ◌, ◌<ℤ◌, ◌≤ℤ◌, true}
use Rattle.std.specs.Prelude.{Some, None, List, ◌++◌, length, map, slice_get, unsigned_abs}
use Rattle.std.specs.Int.{int_rem_euclid}
use Rattle.nesl_values.specs.Tree.{ValueTree, int, boolean, pair, sequence}
use Rattle.nesl_seqs_base.specs.Outcome.{gives}
use Rattle.nesl_seqs_base.specs.Meaning.{outcome_of}
use Rattle.nesl_seqs_base.specs.Prices.{digits}
use Rattle.nesl_seqs_base.specs.declared.seq_fn.SeqFn.TheVariants as function

-- z modulo n, in 0 to n - 1
abbrev pub modulo : ℤ → ℕ → ℕ
modulo z n = unsigned_abs (int_rem_euclid z (pos n))

-- what `rotate(v, k)` gives is as long, and element j is at place (j + k) modulo the length
abbrev pub PlacesOfRotate : Type 0
PlacesOfRotate = (ts us : List ValueTree) (k : ℤ)
    → outcome_of function.Rotate (pair (sequence ts) (int k)) ≡ gives (sequence us)
    → (length us ≡ length ts) × ((j : ℕ) → j < length ts → (modulo (pos j +ℤ k) (length ts) < length ts)
    × (slice_get us (modulo (pos j +ℤ k) (length ts)) ≡ slice_get ts j))

-- place j of `[s:e:d]` has s + j * d where this is below the end, and no place is left for one that isn't
abbrev pub NumbersOfRange : Type 0
NumbersOfRange = (s e : ℤ) (d j : ℕ) (us : List ValueTree)
    → outcome_of function.RangeBy (pair (int s) (pair (int e) (int (pos d)))) ≡ gives (sequence us)
    → ((s +ℤ pos (j * d)) <ℤ e → slice_get us j ≡ Some (int (s +ℤ pos (j * d))))
    × (e ≤ℤ (s +ℤ pos (j * d)) → slice_get us j ≡ None)

-- `take(v, k)` and `drop(v, k)` are together the whole, and `take` has as many elements as k says: the first of them,
-- and for a k below 0 the last
abbrev pub TakenAndDropped : Type 0
TakenAndDropped = (ts us vs : List ValueTree) (k : ℤ)
    → outcome_of function.Take (pair (sequence ts) (int k)) ≡ gives (sequence us)
    → outcome_of function.Drop (pair (sequence ts) (int k)) ≡ gives (sequence vs)
    → (length us ≡ unsigned_abs k) × (pos 0 ≤ℤ k → us ++ vs ≡ ts) × (k <ℤ pos 0 → vs ++ us ≡ ts)

-- element j of `even_elts(v)` is element 2 j, and of `odd_elts(v)` element 2 j + 1
abbrev pub EveryOther : Type 0
EveryOther = (ts us vs : List ValueTree) (j : ℕ) → outcome_of function.EvenElts (sequence ts) ≡ gives (sequence us)
    → outcome_of function.OddElts (sequence ts) ≡ gives (sequence vs)
    → (slice_get us j ≡ slice_get ts (2 * j)) × (slice_get vs j ≡ slice_get ts (2 * j + 1))

-- what `interleave` weaves is at the even places and at the odd ones
abbrev pub Woven : Type 0
Woven = (ts us : List ValueTree) (v : ValueTree)
    → outcome_of function.Interleave (pair (sequence ts) (sequence us)) ≡ gives v
    → (outcome_of function.EvenElts v ≡ gives (sequence ts)) × (outcome_of function.OddElts v ≡ gives (sequence us))

-- `unzip` takes apart what `zip` makes
abbrev pub Zipped : Type 0
Zipped = (ts us : List ValueTree) (v : ValueTree) → outcome_of function.Zip (pair (sequence ts) (sequence us)) ≡ gives v
    → outcome_of function.Unzip v ≡ gives (pair (sequence ts) (sequence us))

-- the pieces that `partition` makes are the whole when they are joined, and have the lengths that were asked for
abbrev pub Cut : Type 0
Cut = (ts : List ValueTree) (zs : List ℤ) (tss : List (List ValueTree))
    → outcome_of function.Partition (pair (sequence ts) (sequence (map int zs))) ≡ gives (sequence (map sequence tss))
    → (outcome_of function.Flatten (sequence (map sequence tss)) ≡ gives (sequence ts))
    × (map (λ us. pos (length us)) tss ≡ zs)

-- `permute` puts each element where its index says
abbrev pub PlacesOfPermute : Type 0
PlacesOfPermute = (ts us vs : List ValueTree) (j k : ℕ) (t : ValueTree)
    → outcome_of function.Permute (pair (sequence ts) (sequence us)) ≡ gives (sequence vs)
    → slice_get us j ≡ Some (int (pos k)) → slice_get ts j ≡ Some t → slice_get vs k ≡ Some t

-- `eql` decides whether two trees are the same
abbrev pub ToldEqual : Type 0
ToldEqual = (t u : ValueTree) → (outcome_of function.Eql (pair t u) ≡ gives (boolean true)) ↔ (t ≡ u)

-- 0 has no binary digits, and any other n as many as it takes: it is below 2^digits, and not below 2^(digits - 1)
abbrev pub NumberOfDigits : Type 0
NumberOfDigits = (digits 0 ≡ 0)
    × ((n : ℕ) → 0 < n → (0 < digits n) × (2 ^ (digits n - 1) ≤ n) × (n < 2 ^ digits n))
