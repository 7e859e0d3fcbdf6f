-- What each function on sequences has for a value of its argument's type.
use Rattle.std.proofs.Common.{◌≡◌, ℕ, zero, suc, ◌+◌, ◌-◌, ◌/◌, ℤ, pos, negsuc, Bool, true, false, cond, ◌⊎◌, inl, inr, List, [], ◌∷◌, ◌++◌, length, map, take, drop, reverse, replicate, set, zip, Option, Some, None, option_and_then, subst, sym, nat_le, nat_lt, nat_eq, unwrap_or}
use Rattle.std.specs.Prelude.{◌||◌, ◌+ℤ◌, ◌*◌}
use Rattle.std.specs.List.{flat_map, list_all, enumerate_from, range_with_len}
use Rattle.nesl_values.specs.Tree.{ValueTree, ValueTrees, int, boolean, character, pair, seq, no_trees, tree_then}
use Rattle.nesl_values.specs.Tree.{sequence}
use Rattle.nesl_values.specs.Parts.{list_of, as_int, as_pair, as_sequence}
use Rattle.nesl_types_shared.specs.Term.{Term}
use Rattle.nesl_types_shared.specs.Term as type
use Rattle.nesl_scalars.specs.declared.trap.Trap.{Trap}
use Rattle.nesl_scalars.specs.declared.trap.Trap.TheVariants as trap
use Rattle.nesl_seqs_base.specs.Outcome.{Outcome, gives, traps, if_there, if_there_or, fits, number}
use Rattle.nesl_seqs_base.specs.Arguments.{sequence_and_int, two_sequences, tree_and_int, sequence_item_place, two_ints, three_ints, numbers, truths}
use Rattle.nesl_seqs_base.specs.Pieces.{element_at, appended, halves, taken, dropped, reversed, places_on, rotated, replaced, sequence_of_two}
use Rattle.nesl_seqs_base.specs.Reductions.{all_of, summed, some_true, all_true, count_of_true, total}
use Rattle.nesl_seqs_base.specs.Equal.{tree_eq}
use Rattle.nesl_seqs_base.specs.Pairs.{zipped, pairs}
use Rattle.nesl_seqs_base.specs.Ranges.{repeated, ranged, first_numbers, progression, steps_below}
use Rattle.nesl_seqs_base.specs.Extremes.{key, element_of, best, or_empty, best_element, best_place, of_best}
use Rattle.nesl_seqs_base.specs.Scans.{before_each, plus_scanned, logic_scanned, joined_truths, joined_bits}
use Rattle.nesl_seqs_base.specs.Levels.{sequences, flattened, sequence_and_numbers, partitioned, pieces, are_lengths}
use Rattle.nesl_seqs_base.specs.Sides.{sequence_of_pairs, unzipped, sequence_and_truths, split_apart, marked}
use Rattle.nesl_seqs_base.specs.Woven.{odd_elements, even_elements, interleaved, evens, woven}
use Rattle.nesl_seqs_base.specs.Gather.{gathered}
use Rattle.nesl_seqs_base.specs.Permute.{permuted, rearranged, all_differ}
use Rattle.nesl_seqs_base.specs.Places.{all_name_places, places_named, elements_at, at_places, arrival}
use Rattle.nesl_seqs_base.specs.Write.{int_and_tree, written, overwritten}
use Rattle.nesl_seqs_base.specs.Meaning.{outcome_of}
use Rattle.nesl_seqs_base.specs.declared.order.Best.{Best}
use Rattle.nesl_seqs_base.specs.declared.order.Order.{Order}
use Rattle.nesl_seqs_base.specs.declared.order.Kind.{Kind}
use Rattle.nesl_seqs_base.specs.declared.order.Kind.TheVariants.{Numbers, Codes}
use Rattle.nesl_seqs_base.specs.declared.joint.Joint.{Joint}
use Rattle.nesl_seqs_base.specs.declared.seq_fn.SeqFn.TheVariants as f
use Rattle.nesl_eval_sound.specs.HasType.{HasType, EachHasType}
use Rattle.nesl_eval_sound.specs.Keeps.{OutcomeHasType}
use Rattle.nesl_eval_sound.proofs.Each.{Each, Reads, each_append, each_take, each_drop, each_replicate, each_set, each_filter_map, each_evens, each_woven, each_pieces, each_map, each_of_all, each_flat, each_reverse, each_zip, each_zip_right, each_weaker, each_beside, each_elements_at, each_enumerated, arrival_holds, read_or}
use Rattle.nesl_eval_sound.proofs.Readers.{read_given, Any, each_listed, each_in_sequence, reads_int, reads_pair, reads_sequence, reads_sequence_and_int, reads_two_sequences, reads_tree_and_int, reads_item_place, reads_two_ints, reads_three_ints, reads_numbers, reads_truths, reads_sequences, reads_pairs, reads_sequence_and_truths, reads_sequence_and_numbers, reads_all_ints, reads_all_writes, reads_elements, read_all}

module _ (held : ℕ → Option Term) where
  -- either of two outcomes
  pub either_gives : (c : Bool) (o p : Outcome) (t : Term) → OutcomeHasType held o t → OutcomeHasType held p t → OutcomeHasType held (cond c o p) t
  either_gives true o p t h k = h
  either_gives false o p t h k = k

  -- one, or a refusal
  pub or_traps : (c : Bool) (o : Outcome) (e : Trap) (t : Term) → OutcomeHasType held o t → OutcomeHasType held (cond c o (traps e)) t
  or_traps true o e t h = h
  or_traps false o e t h = tt

  pub number_gives : (z : ℤ) → OutcomeHasType held (number z) type.int
  number_gives z = or_traps (fits z) (gives (int z)) trap.Overflow type.int tt

  -- a list of values of one type, as a sequence
  pub in_sequence : (vs : List ValueTree) (t : Term) → Each (λ v. HasType held v t) vs → HasType held (sequence vs) (type.seq_of t)
  in_sequence vs t h = each_in_sequence held vs t h

  module _ (a : Term) where
    abbrev A : List ValueTree → Type 0
    A vs = Each (λ v. HasType held v a) vs

    pub keeps_length : (v : ValueTree) → HasType held v (type.seq_of a) → OutcomeHasType held (outcome_of f.Length v) type.int
    keeps_length v h = read_given held A (as_sequence v) (λ ts. gives (int (pos (length ts)))) type.int (reads_sequence held a v h) (λ ts k. tt)

    at : (ts : List ValueTree) (k : ℤ) → A ts → OutcomeHasType held (element_at ts k) a
    at [] (pos i) h = tt
    at (t ∷ ts) (pos zero) h = h.0
    at (t ∷ ts) (pos (suc i)) h = at ts (pos i) h.1
    at ts (negsuc i) h = tt

    pub keeps_index : (v : ValueTree) → HasType held v (type.pair_of (type.seq_of a) type.int) → OutcomeHasType held (outcome_of f.ElementAt v) a
    keeps_index v h = read_given held (λ p. A p.0 × Any p.1) (sequence_and_int v) (λ p. element_at p.0 p.1) a (reads_sequence_and_int held a v h) (λ p k. at p.0 p.1 k.0)

    pub keeps_append : (v : ValueTree) → HasType held v (type.pair_of (type.seq_of a) (type.seq_of a)) → OutcomeHasType held (outcome_of f.Append v) (type.seq_of a)
    keeps_append v h =
        read_given held (λ p. A p.0 × A p.1) (two_sequences v) (λ p. appended p.0 p.1) (type.seq_of a) (reads_two_sequences held a a v h)
        (λ p k. in_sequence (p.0 ++ p.1) a (each_append (λ v. HasType held v a) p.0 p.1 k.0 k.1))

    repeats : (t : ValueTree) (k : ℤ) → HasType held t a → OutcomeHasType held (repeated t k) (type.seq_of a)
    repeats t (pos k) h = in_sequence (replicate k t) a (each_replicate (λ v. HasType held v a) k t h)
    repeats t (negsuc k) h = tt

    pub keeps_dist : (v : ValueTree) → HasType held v (type.pair_of a type.int) → OutcomeHasType held (outcome_of f.Dist v) (type.seq_of a)
    keeps_dist v h = read_given held (λ p. HasType held p.0 a) (tree_and_int v) (λ p. repeated p.0 p.1) (type.seq_of a) (reads_tree_and_int held a v h) (λ p k. repeats p.0 p.1 k)

    -- the sequence of two
    of_two : (ts us : List ValueTree) → A ts → A us → HasType held (sequence_of_two ts us) (type.seq_of (type.seq_of a))
    of_two ts us h k = (in_sequence ts a h, (in_sequence us a k, tt))

    pub keeps_bottop : (v : ValueTree) → HasType held v (type.seq_of a) → OutcomeHasType held (outcome_of f.Bottop v) (type.seq_of (type.seq_of a))
    keeps_bottop v h =
        read_given held A (as_sequence v) halves (type.seq_of (type.seq_of a)) (reads_sequence held a v h)
        (λ ts k. let n = (length ts + 1) / 2 in of_two (take n ts) (drop n ts) (each_take (λ v. HasType held v a) n ts k) (each_drop (λ v. HasType held v a) n ts k))

    takes : (ts : List ValueTree) (k : ℤ) → A ts → OutcomeHasType held (taken ts k) (type.seq_of a)
    takes ts (pos k) h = or_traps (nat_le k (length ts)) (gives (sequence (take k ts))) trap.Range (type.seq_of a) (in_sequence (take k ts) a (each_take (λ v. HasType held v a) k ts h))
    takes ts (negsuc k) h =
        or_traps (nat_le (k + 1) (length ts)) (gives (sequence (drop (length ts - (k + 1)) ts))) trap.Range (type.seq_of a)
        (in_sequence (drop (length ts - (k + 1)) ts) a (each_drop (λ v. HasType held v a) (length ts - (k + 1)) ts h))

    pub keeps_take : (v : ValueTree) → HasType held v (type.pair_of (type.seq_of a) type.int) → OutcomeHasType held (outcome_of f.Take v) (type.seq_of a)
    keeps_take v h = read_given held (λ p. A p.0 × Any p.1) (sequence_and_int v) (λ p. taken p.0 p.1) (type.seq_of a) (reads_sequence_and_int held a v h) (λ p k. takes p.0 p.1 k.0)

    drops : (ts : List ValueTree) (k : ℤ) → A ts → OutcomeHasType held (dropped ts k) (type.seq_of a)
    drops ts (pos k) h = or_traps (nat_le k (length ts)) (gives (sequence (drop k ts))) trap.Range (type.seq_of a) (in_sequence (drop k ts) a (each_drop (λ v. HasType held v a) k ts h))
    drops ts (negsuc k) h =
        or_traps (nat_le (k + 1) (length ts)) (gives (sequence (take (length ts - (k + 1)) ts))) trap.Range (type.seq_of a)
        (in_sequence (take (length ts - (k + 1)) ts) a (each_take (λ v. HasType held v a) (length ts - (k + 1)) ts h))

    pub keeps_drop : (v : ValueTree) → HasType held v (type.pair_of (type.seq_of a) type.int) → OutcomeHasType held (outcome_of f.Drop v) (type.seq_of a)
    keeps_drop v h = read_given held (λ p. A p.0 × Any p.1) (sequence_and_int v) (λ p. dropped p.0 p.1) (type.seq_of a) (reads_sequence_and_int held a v h) (λ p k. drops p.0 p.1 k.0)

    pub keeps_reverse : (v : ValueTree) → HasType held v (type.seq_of a) → OutcomeHasType held (outcome_of f.Reverse v) (type.seq_of a)
    keeps_reverse v h = read_given held A (as_sequence v) reversed (type.seq_of a) (reads_sequence held a v h) (λ ts k. in_sequence (reverse ts) a (each_reverse (λ v. HasType held v a) ts k))

    rotates : (ts : List ValueTree) (k : ℤ) → A ts → OutcomeHasType held (rotated ts k) (type.seq_of a)
    rotates ts k h =
        let n = length ts - places_on (length ts) k in
        in_sequence (drop n ts ++ take n ts) a
        (each_append (λ v. HasType held v a) (drop n ts) (take n ts) (each_drop (λ v. HasType held v a) n ts h) (each_take (λ v. HasType held v a) n ts h))

    pub keeps_rotate : (v : ValueTree) → HasType held v (type.pair_of (type.seq_of a) type.int) → OutcomeHasType held (outcome_of f.Rotate v) (type.seq_of a)
    keeps_rotate v h = read_given held (λ p. A p.0 × Any p.1) (sequence_and_int v) (λ p. rotated p.0 p.1) (type.seq_of a) (reads_sequence_and_int held a v h) (λ p k. rotates p.0 p.1 k.0)

    replaces : (ts : List ValueTree) (x : ValueTree) (i : ℤ) → A ts → HasType held x a → OutcomeHasType held (replaced ts x i) (type.seq_of a)
    replaces ts x (pos i) h k = or_traps (nat_lt i (length ts)) (gives (sequence (set ts i x))) trap.Range (type.seq_of a) (in_sequence (set ts i x) a (each_set (λ v. HasType held v a) ts i x k h))
    replaces ts x (negsuc i) h k = tt

    pub keeps_rep : (v : ValueTree) → HasType held v (type.pair_of (type.seq_of a) (type.pair_of a type.int)) → OutcomeHasType held (outcome_of f.Rep v) (type.seq_of a)
    keeps_rep v h =
        read_given held (λ p. A p.0 × HasType held p.1.0 a) (sequence_item_place v) (λ p. replaced p.0 p.1.0 p.1.1) (type.seq_of a) (reads_item_place held a v h)
        (λ p k. replaces p.0 p.1.0 p.1.1 k.0 k.1)

    pub keeps_eql : (v : ValueTree) → HasType held v (type.pair_of a a) → OutcomeHasType held (outcome_of f.Eql v) type.bool
    keeps_eql v h = read_given held (λ p. HasType held p.0 a × HasType held p.1 a) (as_pair v) (λ p. gives (boolean (tree_eq p.0 p.1))) type.bool (reads_pair held a a v h) (λ p k. tt)

    pub keeps_flatten : (v : ValueTree) → HasType held v (type.seq_of (type.seq_of a)) → OutcomeHasType held (outcome_of f.Flatten v) (type.seq_of a)
    keeps_flatten v h =
        read_given held (Each A) (sequences v) flattened (type.seq_of a) (reads_sequences held a v h)
        (λ tss k. in_sequence (flat_map (λ ts. ts) tss) a (each_flat (λ v. HasType held v a) tss k))

    pub keeps_odd : (v : ValueTree) → HasType held v (type.seq_of a) → OutcomeHasType held (outcome_of f.OddElts v) (type.seq_of a)
    keeps_odd v h =
        read_given held A (as_sequence v) odd_elements (type.seq_of a) (reads_sequence held a v h)
        (λ ts k. in_sequence (evens (drop 1 ts)) a (each_evens (λ v. HasType held v a) (drop 1 ts) (each_drop (λ v. HasType held v a) 1 ts k)))

    pub keeps_even : (v : ValueTree) → HasType held v (type.seq_of a) → OutcomeHasType held (outcome_of f.EvenElts v) (type.seq_of a)
    keeps_even v h = read_given held A (as_sequence v) even_elements (type.seq_of a) (reads_sequence held a v h) (λ ts k. in_sequence (evens ts) a (each_evens (λ v. HasType held v a) ts k))

    pub keeps_interleave : (v : ValueTree) → HasType held v (type.pair_of (type.seq_of a) (type.seq_of a)) → OutcomeHasType held (outcome_of f.Interleave v) (type.seq_of a)
    keeps_interleave v h =
        read_given held (λ p. A p.0 × A p.1) (two_sequences v) (λ p. interleaved p.0 p.1) (type.seq_of a) (reads_two_sequences held a a v h)
        (λ p k. or_traps (nat_eq (length p.0) (length p.1) || nat_eq (length p.0) (length p.1 + 1)) (gives (sequence (woven p.0 p.1))) trap.Length (type.seq_of a)
        (in_sequence (woven p.0 p.1) a (each_woven (λ v. HasType held v a) p.0 p.1 k.0 k.1)))

    gathers : (ts : List ValueTree) (zs : List ℤ) → A ts → OutcomeHasType held (gathered ts zs) (type.seq_of a)
    gathers ts zs h =
        or_traps (all_name_places (length ts) zs) (gives (sequence (elements_at ts (places_named (length ts) zs)))) trap.Range (type.seq_of a)
        (in_sequence (elements_at ts (places_named (length ts) zs)) a (each_elements_at (λ v. HasType held v a) ts (places_named (length ts) zs) h))

    pub keeps_gather : (v : ValueTree) → HasType held v (type.pair_of (type.seq_of a) (type.seq_of type.int)) → OutcomeHasType held (outcome_of f.Gather v) (type.seq_of a)
    keeps_gather v h =
        read_given held (λ p. A p.0 × Each (λ w. HasType held w type.int) p.1) (two_sequences v) (λ p. if_there (all_of as_int p.1) (gathered p.0)) (type.seq_of a) (reads_two_sequences held a type.int v h)
        (λ p k. read_given held (Each Any) (all_of as_int p.1) (gathered p.0) (type.seq_of a) (reads_all_ints held p.1 k.1) (λ zs j. gathers p.0 zs k.0))

    rearranges : (ts : List ValueTree) (ks : List ℕ) → A ts → A (rearranged ts ks)
    rearranges ts ks h =
        each_filter_map (λ v. HasType held v a) (arrival (zip ks ts)) (range_with_len 0 (length ts))
        (λ k. arrival_holds (λ v. HasType held v a) (zip ks ts) k (each_zip_right (λ v. HasType held v a) ks ts h))

    permutes : (ts : List ValueTree) (zs : List ℤ) → A ts → OutcomeHasType held (permuted ts zs) (type.seq_of a)
    permutes ts zs h =
        let ks = places_named (length ts) zs in
        or_traps (nat_eq (length ts) (length zs)) (at_places (length ts) zs (λ ks. cond (all_differ ks) (gives (sequence (rearranged ts ks))) (traps trap.Permutation))) trap.Length (type.seq_of a)
        (or_traps (all_name_places (length ts) zs) (cond (all_differ ks) (gives (sequence (rearranged ts ks))) (traps trap.Permutation)) trap.Range (type.seq_of a)
        (or_traps (all_differ ks) (gives (sequence (rearranged ts ks))) trap.Permutation (type.seq_of a) (in_sequence (rearranged ts ks) a (rearranges ts ks h))))

    pub keeps_permute : (v : ValueTree) → HasType held v (type.pair_of (type.seq_of a) (type.seq_of type.int)) → OutcomeHasType held (outcome_of f.Permute v) (type.seq_of a)
    keeps_permute v h =
        read_given held (λ p. A p.0 × Each (λ w. HasType held w type.int) p.1) (two_sequences v) (λ p. if_there (all_of as_int p.1) (permuted p.0)) (type.seq_of a) (reads_two_sequences held a type.int v h)
        (λ p k. read_given held (Each Any) (all_of as_int p.1) (permuted p.0) (type.seq_of a) (reads_all_ints held p.1 k.1) (λ zs j. permutes p.0 zs k.0))

    splits : (ts : List ValueTree) (bs : List Bool) → A ts → OutcomeHasType held (split_apart ts bs) (type.seq_of (type.seq_of a))
    splits ts bs h =
        or_traps (nat_eq (length ts) (length bs)) (gives (sequence_of_two (marked false ts bs) (marked true ts bs))) trap.Length (type.seq_of (type.seq_of a))
        (of_two (marked false ts bs) (marked true ts bs) (each_beside (λ v. HasType held v a) false ts bs h) (each_beside (λ v. HasType held v a) true ts bs h))

    pub keeps_split : (v : ValueTree) → HasType held v (type.pair_of (type.seq_of a) (type.seq_of type.bool)) → OutcomeHasType held (outcome_of f.Split v) (type.seq_of (type.seq_of a))
    keeps_split v h =
        read_given held (λ p. A p.0 × Each Any p.1) (sequence_and_truths v) (λ p. split_apart p.0 p.1) (type.seq_of (type.seq_of a)) (reads_sequence_and_truths held a v h)
        (λ p k. splits p.0 p.1 k.0)

    partitions : (ts : List ValueTree) (zs : List ℤ) → A ts → OutcomeHasType held (partitioned ts zs) (type.seq_of (type.seq_of a))
    partitions ts zs h =
        or_traps (are_lengths (length ts) zs) (gives (sequence (map sequence (pieces ts zs)))) trap.Count (type.seq_of (type.seq_of a))
        (in_sequence (map sequence (pieces ts zs)) (type.seq_of a)
        (each_map (λ v. HasType held v (type.seq_of a)) sequence (pieces ts zs)
        (each_weaker A (λ us. HasType held (sequence us) (type.seq_of a)) (pieces ts zs) (λ us k. in_sequence us a k) (each_pieces (λ v. HasType held v a) ts zs h))))

    pub keeps_partition : (v : ValueTree) → HasType held v (type.pair_of (type.seq_of a) (type.seq_of type.int)) → OutcomeHasType held (outcome_of f.Partition v) (type.seq_of (type.seq_of a))
    keeps_partition v h =
        read_given held (λ p. A p.0 × Each Any p.1) (sequence_and_numbers v) (λ p. partitioned p.0 p.1) (type.seq_of (type.seq_of a)) (reads_sequence_and_numbers held a v h)
        (λ p k. partitions p.0 p.1 k.0)

    overwrites : (ts : List ValueTree) (ws : List (ℕ × ValueTree)) → A ts → Each (λ w. HasType held w.1 a) ws → A (overwritten ts ws)
    overwrites ts ws h k =
        each_map (λ v. HasType held v a) (λ e. unwrap_or (arrival (reverse ws) e.0) e.1) (enumerate_from 0 ts)
        (each_weaker (λ e. HasType held e.1 a) (λ e. HasType held (unwrap_or (arrival (reverse ws) e.0) e.1) a) (enumerate_from 0 ts)
        (λ e he. read_or (λ v. HasType held v a) (arrival (reverse ws) e.0) e.1 (arrival_holds (λ v. HasType held v a) (reverse ws) e.0 (each_reverse (λ w. HasType held w.1 a) ws k)) he)
        (each_enumerated (λ v. HasType held v a) 0 ts h))

    writes : (ts : List ValueTree) (ps : List (ℤ × ValueTree)) → A ts → Each (λ p. HasType held p.1 a) ps → OutcomeHasType held (written ts ps) (type.seq_of a)
    writes ts ps h k =
        let ks = places_named (length ts) (map (λ p. p.0) ps) in
        or_traps (all_name_places (length ts) (map (λ p. p.0) ps)) (gives (sequence (overwritten ts (zip ks (map (λ p. p.1) ps))))) trap.Range (type.seq_of a)
        (in_sequence (overwritten ts (zip ks (map (λ p. p.1) ps))) a
        (overwrites ts (zip ks (map (λ p. p.1) ps)) h (each_zip_right (λ v. HasType held v a) ks (map (λ p. p.1) ps) (each_map (λ v. HasType held v a) (λ p. p.1) ps k))))

    pub keeps_write : (v : ValueTree) → HasType held v (type.pair_of (type.seq_of a) (type.seq_of (type.pair_of type.int a))) → OutcomeHasType held (outcome_of f.Write v) (type.seq_of a)
    keeps_write v h =
        read_given held (λ p. A p.0 × Each (λ w. HasType held w (type.pair_of type.int a)) p.1) (two_sequences v) (λ p. if_there (all_of int_and_tree p.1) (written p.0)) (type.seq_of a)
        (reads_two_sequences held a (type.pair_of type.int a) v h)
        (λ p k. read_given held (Each (λ q. HasType held q.1 a)) (all_of int_and_tree p.1) (written p.0) (type.seq_of a) (reads_all_writes held a p.1 k.1) (λ ps j. writes p.0 ps k.0 j))

    module _ (b : Term) where
      pub keeps_zip : (v : ValueTree) → HasType held v (type.pair_of (type.seq_of a) (type.seq_of b)) → OutcomeHasType held (outcome_of f.Zip v) (type.seq_of (type.pair_of a b))
      keeps_zip v h =
          read_given held (λ p. A p.0 × Each (λ w. HasType held w b) p.1) (two_sequences v) (λ p. zipped p.0 p.1) (type.seq_of (type.pair_of a b)) (reads_two_sequences held a b v h)
          (λ p k. or_traps (nat_eq (length p.0) (length p.1)) (gives (sequence (pairs p.0 p.1))) trap.Length (type.seq_of (type.pair_of a b))
          (in_sequence (pairs p.0 p.1) (type.pair_of a b)
          (each_map (λ v. HasType held v (type.pair_of a b)) (λ p. pair p.0 p.1) (zip p.0 p.1) (each_zip (λ v. HasType held v a) (λ v. HasType held v b) p.0 p.1 k.0 k.1))))

      pub keeps_unzip : (v : ValueTree) → HasType held v (type.seq_of (type.pair_of a b)) → OutcomeHasType held (outcome_of f.Unzip v) (type.pair_of (type.seq_of a) (type.seq_of b))
      keeps_unzip v h =
          read_given held (Each (λ p. HasType held p.0 a × HasType held p.1 b)) (sequence_of_pairs v) unzipped (type.pair_of (type.seq_of a) (type.seq_of b)) (reads_pairs held a b v h)
          (λ ps k. (
            in_sequence (map (λ p. p.0) ps) a (each_map (λ v. HasType held v a) (λ p. p.0) ps (each_weaker (λ p. HasType held p.0 a × HasType held p.1 b) (λ p. HasType held p.0 a) ps (λ p j. j.0) k)),
            in_sequence (map (λ p. p.1) ps) b (each_map (λ v. HasType held v b) (λ p. p.1) ps (each_weaker (λ p. HasType held p.0 a × HasType held p.1 b) (λ p. HasType held p.1 b) ps (λ p j. j.1) k)),
          ))

  progressions : (s : ℤ) (d n : ℕ) → HasType held (sequence (progression s d n)) (type.seq_of type.int)
  progressions s d n = in_sequence (progression s d n) type.int (each_of_all (λ v. HasType held v type.int) (λ j. int (s +ℤ pos (j * d))) (range_with_len 0 n) (λ j. tt))

  ranges : (s e d : ℤ) → OutcomeHasType held (ranged s e d) (type.seq_of type.int)
  ranges s e (pos (suc d)) = progressions s (suc d) (steps_below s e (suc d))
  ranges s e (pos zero) = tt
  ranges s e (negsuc d) = tt

  pub keeps_range : (v : ValueTree) → HasType held v (type.pair_of type.int type.int) → OutcomeHasType held (outcome_of f.Range v) (type.seq_of type.int)
  keeps_range v h = read_given held (λ p. Any p.0 × Any p.1) (two_ints v) (λ p. ranged p.0 p.1 (pos 1)) (type.seq_of type.int) (reads_two_ints held v h) (λ p k. ranges p.0 p.1 (pos 1))

  pub keeps_range_by : (v : ValueTree) → HasType held v (type.pair_of type.int (type.pair_of type.int type.int)) → OutcomeHasType held (outcome_of f.RangeBy v) (type.seq_of type.int)
  keeps_range_by v h =
      read_given held (λ p. Any p.0 × (Any p.1.0 × Any p.1.1)) (three_ints v) (λ p. ranged p.0 p.1.0 p.1.1) (type.seq_of type.int) (reads_three_ints held v h) (λ p k. ranges p.0 p.1.0 p.1.1)

  firsts : (k : ℤ) → OutcomeHasType held (first_numbers k) (type.seq_of type.int)
  firsts (pos k) = progressions (pos 0) 1 k
  firsts (negsuc k) = tt

  pub keeps_iota : (v : ValueTree) → HasType held v type.int → OutcomeHasType held (outcome_of f.Index v) (type.seq_of type.int)
  keeps_iota v h = read_given held Any (as_int v) first_numbers (type.seq_of type.int) (reads_int held v h) (λ k j. firsts k)

  pub keeps_any : (v : ValueTree) → HasType held v (type.seq_of type.bool) → OutcomeHasType held (outcome_of f.Any v) type.bool
  keeps_any v h = read_given held (Each Any) (truths v) some_true type.bool (reads_truths held v h) (λ bs k. tt)

  pub keeps_all : (v : ValueTree) → HasType held v (type.seq_of type.bool) → OutcomeHasType held (outcome_of f.All v) type.bool
  keeps_all v h = read_given held (Each Any) (truths v) all_true type.bool (reads_truths held v h) (λ bs k. tt)

  pub keeps_count : (v : ValueTree) → HasType held v (type.seq_of type.bool) → OutcomeHasType held (outcome_of f.Count v) type.int
  keeps_count v h = read_given held (Each Any) (truths v) count_of_true type.int (reads_truths held v h) (λ bs k. tt)

  pub keeps_sum : (v : ValueTree) → HasType held v (type.seq_of type.int) → OutcomeHasType held (outcome_of f.Sum v) type.int
  keeps_sum v h = read_given held (Each Any) (numbers v) summed type.int (reads_numbers held v h) (λ zs k. number_gives (total zs))

  -- numbers, or truth values, are a sequence
  of_ints : (zs : List ℤ) → HasType held (sequence (map int zs)) (type.seq_of type.int)
  of_ints zs = in_sequence (map int zs) type.int (each_of_all (λ v. HasType held v type.int) int zs (λ z. tt))

  of_bools : (bs : List Bool) → HasType held (sequence (map boolean bs)) (type.seq_of type.bool)
  of_bools bs = in_sequence (map boolean bs) type.bool (each_of_all (λ v. HasType held v type.bool) boolean bs (λ b. tt))

  pub keeps_plus_scan : (v : ValueTree) → HasType held v (type.seq_of type.int) → OutcomeHasType held (outcome_of f.PlusScan v) (type.seq_of type.int)
  keeps_plus_scan v h =
      read_given held (Each Any) (numbers v) plus_scanned (type.seq_of type.int) (reads_numbers held v h)
      (λ zs k. or_traps (list_all fits (before_each total zs)) (gives (sequence (map int (before_each total zs)))) trap.Overflow (type.seq_of type.int) (of_ints (before_each total zs)))

  chooses : {X : Type 0} (f : X → ValueTree) (o : Option X) (t : Term) → ((x : X) → HasType held (f x) t) → OutcomeHasType held (or_empty f o) t
  chooses f None t h = tt
  chooses f (Some x) t h = h x

  -- of numbers, and of characters: whatever the first reading has, it is of the type
  numbers_first : (o : Order) (k : Kind → Best → ValueTree) (u : Term) (v : ValueTree) (zs : Option (List ℤ)) → Reads zs (Each Any) → ((b : Best) → HasType held (k Numbers b) u)
      → OutcomeHasType held (if_there_or zs (λ zs. or_empty (k Numbers) (best o zs)) (if_there (option_and_then (all_of (key Codes)) (as_sequence v)) (λ zs. or_empty (k Codes) (best o zs)))) u
  numbers_first o k u v None r j = absurd r
  numbers_first o k u v (Some zs) r j = chooses (k Numbers) (best o zs) u j

  best_int : (o : Order) (v : ValueTree) → HasType held v (type.seq_of type.int) → OutcomeHasType held (best_element o v) type.int
  best_int o v h =
      numbers_first o (λ k b. element_of k b.key) type.int v (option_and_then (all_of (key Numbers)) (as_sequence v)) (reads_elements held Any type.int (key Numbers) v (reads_int held) h) (λ b. tt)

  place_int : (o : Order) (v : ValueTree) → HasType held v (type.seq_of type.int) → OutcomeHasType held (best_place o v) type.int
  place_int o v h =
      numbers_first o (λ k b. int (pos b.place)) type.int v (option_and_then (all_of (key Numbers)) (as_sequence v)) (reads_elements held Any type.int (key Numbers) v (reads_int held) h) (λ b. tt)

  -- a sequence of characters has no numbers, or is empty
  codes_only : (vs : ValueTrees) → EachHasType held vs type.char → (o : Order) (u : Term) (k : Kind → Best → ValueTree)
      → ((b : Best) → HasType held (k Codes b) u) → OutcomeHasType held (of_best o k (seq vs)) u
  codes_only no_trees h o u k j = tt
  codes_only (tree_then (character c) vs) h o u k j =
      read_given held (Each Any) (all_of (key Codes) (character c ∷ list_of vs)) (λ zs. or_empty (k Codes) (best o zs)) u
      (read_all (λ w. HasType held w type.char) Any (key Codes) (character c ∷ list_of vs) code (each_listed held (tree_then (character c) vs) type.char h))
      (λ zs r. chooses (k Codes) (best o zs) u j)
    where
      code : (w : ValueTree) → HasType held w type.char → Reads (key Codes w) Any
      code (character c) h = tt
      code w h = absurd h
  codes_only (tree_then v vs) h o u k j = absurd h.0

  best_char : (o : Order) (v : ValueTree) → HasType held v (type.seq_of type.char) → OutcomeHasType held (best_element o v) type.char
  best_char o (seq vs) h = codes_only vs h o type.char (λ k b. element_of k b.key) (λ b. tt)
  best_char o v h = absurd h

  place_char : (o : Order) (v : ValueTree) → HasType held v (type.seq_of type.char) → OutcomeHasType held (best_place o v) type.int
  place_char o (seq vs) h = codes_only vs h o type.int (λ k b. int (pos b.place)) (λ b. tt)
  place_char o v h = absurd h

  pub keeps_best : (o : Order) (a : Term) → ((a ≡ type.int) ⊎ (a ≡ type.char)) → (v : ValueTree) → HasType held v (type.seq_of a) → OutcomeHasType held (best_element o v) a
  keeps_best o a (inl e) = subst (λ a. (v : ValueTree) → HasType held v (type.seq_of a) → OutcomeHasType held (best_element o v) a) (sym e) (best_int o)
  keeps_best o a (inr e) = subst (λ a. (v : ValueTree) → HasType held v (type.seq_of a) → OutcomeHasType held (best_element o v) a) (sym e) (best_char o)

  pub keeps_place : (o : Order) (a : Term) → ((a ≡ type.int) ⊎ (a ≡ type.char)) → (v : ValueTree) → HasType held v (type.seq_of a) → OutcomeHasType held (best_place o v) type.int
  keeps_place o a (inl e) = subst (λ a. (v : ValueTree) → HasType held v (type.seq_of a) → OutcomeHasType held (best_place o v) type.int) (sym e) (place_int o)
  keeps_place o a (inr e) = subst (λ a. (v : ValueTree) → HasType held v (type.seq_of a) → OutcomeHasType held (best_place o v) type.int) (sym e) (place_char o)

  scan_bool : (j : Joint) (v : ValueTree) → HasType held v (type.seq_of type.bool) → OutcomeHasType held (logic_scanned j v) (type.seq_of type.bool)
  scan_bool j v h = told (truths v) (reads_truths held v h)
    where
      told : (bs : Option (List Bool)) → Reads bs (Each Any)
          → OutcomeHasType held (if_there_or bs (λ bs. gives (sequence (map boolean (before_each (joined_truths j) bs)))) (if_there (numbers v) (λ zs. gives (sequence (map int (before_each (joined_bits j) zs)))))) (type.seq_of type.bool)
      told None r = absurd r
      told (Some bs) r = of_bools (before_each (joined_truths j) bs)

  scan_int : (j : Joint) (v : ValueTree) → HasType held v (type.seq_of type.int) → OutcomeHasType held (logic_scanned j v) (type.seq_of type.int)
  scan_int j (seq no_trees) h = tt
  scan_int j (seq (tree_then (int n) vs)) h =
      read_given held (Each Any) (numbers (seq (tree_then (int n) vs))) (λ zs. gives (sequence (map int (before_each (joined_bits j) zs)))) (type.seq_of type.int)
      (reads_numbers held (seq (tree_then (int n) vs)) h) (λ zs r. of_ints (before_each (joined_bits j) zs))
  scan_int j (seq (tree_then v vs)) h = absurd h.0
  scan_int j v h = absurd h

  pub keeps_scan : (j : Joint) (a : Term) → ((a ≡ type.int) ⊎ (a ≡ type.bool)) → (v : ValueTree) → HasType held v (type.seq_of a) → OutcomeHasType held (logic_scanned j v) (type.seq_of a)
  keeps_scan j a (inl e) = subst (λ a. (v : ValueTree) → HasType held v (type.seq_of a) → OutcomeHasType held (logic_scanned j v) (type.seq_of a)) (sym e) (scan_int j)
  keeps_scan j a (inr e) = subst (λ a. (v : ValueTree) → HasType held v (type.seq_of a) → OutcomeHasType held (logic_scanned j v) (type.seq_of a)) (sym e) (scan_bool j)
