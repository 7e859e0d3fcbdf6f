-- How many leaves a scan evaluates to.
use Rattle.std.proofs.Common.{◌≡◌, suc, ◌+◌, List, [], ◌∷◌, length, map, take, Option, Some, None, option_map, option_and_then, refl, ap, sym, ◌∙◌, arith}
use Rattle.std.proofs.lemmas.List.FromFn.{length-map-range_with_len}
use Rattle.nesl_values.specs.Tree.{ValueTree, size, sizes, trees_of, sequence}
use Rattle.nesl_seqs_base.specs.Reductions.{all_of}
use Rattle.nesl_seqs_base.specs.Scans.{before_each}

sizes_leaves : {Y : Type 0} (leaf : Y → ValueTree) → ((y : Y) → size (leaf y) ≡ 1) → (ys : List Y) → sizes (trees_of (map leaf ys)) ≡ length ys
sizes_leaves leaf one [] = refl
sizes_leaves leaf one (y ∷ ys) = omega (arith, one y, sizes_leaves leaf one ys)

pub size_before : {X Y : Type 0} (leaf : Y → ValueTree) → ((y : Y) → size (leaf y) ≡ 1) → (f : List X → Y) (xs : List X) → size (sequence (map leaf (before_each f xs))) ≡ 1 + length xs
size_before leaf one f xs = omega (arith, sizes_leaves leaf one (before_each f xs), length-map-range_with_len (λ k. f (take k xs)) 0 (length xs))

pub length_all : {X : Type 0} (read : ValueTree → Option X) (ts : List ValueTree) (xs : List X) → all_of read ts ≡ Some xs → length xs ≡ length ts
length_all {X = X} read [] xs e =
    let none : [] ≡ xs = cc e in
    ap length (sym none)
length_all {X = X} read (t ∷ ts) xs e = by (read t) (all_of read ts) (λ us q. length_all read ts us q) e
  where
    by : (o : Option X) (p : Option (List X)) → ((us : List X) → p ≡ Some us → length us ≡ length ts) → option_and_then (λ u. option_map (λ us. u ∷ us) p) o ≡ Some xs → length xs ≡ suc (length ts)
    by None p q d = absurd (cc d)
    by (Some u) None q d = absurd (cc d)
    by (Some u) (Some us) q d =
        let same : u ∷ us ≡ xs = cc d in
        ap length (sym same) ∙ ap suc (q us refl)
