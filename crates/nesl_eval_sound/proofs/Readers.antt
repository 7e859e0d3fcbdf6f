-- What is read from values of a type.
use Rattle.std.proofs.Common.{ℕ, List, [], ◌∷◌, Option, Some, None, option_map, option_and_then}
use Rattle.nesl_values.specs.Tree.{ValueTree, ValueTrees, int, boolean, character, pair, seq, no_trees, tree_then}
use Rattle.nesl_values.specs.Tree.{trees_of}
use Rattle.nesl_values.specs.Parts.{list_of, as_int, as_bool, as_char, as_pair, as_sequence}
use Rattle.nesl_types_shared.specs.Term.{Term}
use Rattle.nesl_types_shared.specs.Term as type
use Rattle.nesl_seqs_base.specs.Outcome.{Outcome, if_there}
use Rattle.nesl_seqs_base.specs.Arguments.{both_parts, sequence_and_int, two_sequences, tree_and_int, sequence_item_place, two_ints, three_ints, numbers, truths}
use Rattle.nesl_seqs_base.specs.Reductions.{all_of}
use Rattle.nesl_seqs_base.specs.Levels.{sequences, sequence_and_numbers}
use Rattle.nesl_seqs_base.specs.Sides.{sequence_of_pairs, sequence_and_truths}
use Rattle.nesl_seqs_base.specs.Write.{int_and_tree}
use Rattle.nesl_eval_sound.specs.HasType.{HasType, EachHasType}
use Rattle.nesl_eval_sound.specs.Keeps.{OutcomeHasType}
use Rattle.nesl_eval_sound.proofs.Each.{Each, Reads}

-- the outcome of what was read
pub read_given : {X : Type 0} (held : ℕ → Option Term) (P : X → Type 0) (o : Option X) (f : X → Outcome) (t : Term)
    → Reads o P → ((x : X) → P x → OutcomeHasType held (f x) t) → OutcomeHasType held (if_there o f) t
read_given held P None f t r k = absurd r
read_given held P (Some x) f t r k = k x r

pub read_then : {X Y : Type 0} (P : X → Type 0) (Q : Y → Type 0) (o : Option X) (f : X → Option Y)
    → Reads o P → ((x : X) → P x → Reads (f x) Q) → Reads (option_and_then f o) Q
read_then P Q None f r k = absurd r
read_then P Q (Some x) f r k = k x r

pub read_both : {X Y : Type 0} (P : X → Type 0) (Q : Y → Type 0) (o : Option X) (p : Option Y) → Reads o P → Reads p Q → Reads (both_parts o p) (λ x. P x.0 × Q x.1)
read_both P Q None p r s = absurd r
read_both P Q (Some x) None r s = absurd s
read_both P Q (Some x) (Some y) r s = (r, s)

pub read_map : {X Y : Type 0} (P : X → Type 0) (Q : Y → Type 0) (o : Option X) (f : X → Y) → Reads o P → ((x : X) → P x → Q (f x)) → Reads (option_map f o) Q
read_map P Q None f r k = absurd r
read_map P Q (Some x) f r k = k x r

pub read_all : {X : Type 0} (P : ValueTree → Type 0) (Q : X → Type 0) (read : ValueTree → Option X) (ts : List ValueTree)
    → ((t : ValueTree) → P t → Reads (read t) Q) → Each P ts → Reads (all_of read ts) (Each Q)
read_all P Q read [] k h = tt
read_all P Q read (t ∷ ts) k h =
    read_then Q (Each Q) (read t) (λ x. option_map (λ xs. x ∷ xs) (all_of read ts)) (k t h.0)
    (λ x q. read_map (Each Q) (Each Q) (all_of read ts) (λ xs. x ∷ xs) (read_all P Q read ts k h.1) (λ xs qs. (q, qs)))

-- a type
abbrev pub Any : {X : Type 0} → X → Type 0
Any x = Unit {0}

module _ (held : ℕ → Option Term) where
  pub each_listed : (vs : ValueTrees) (t : Term) → EachHasType held vs t → Each (λ v. HasType held v t) (list_of vs)
  each_listed no_trees t h = tt
  each_listed (tree_then v vs) t h = (h.0, each_listed vs t h.1)

  pub each_in_sequence : (vs : List ValueTree) (t : Term) → Each (λ v. HasType held v t) vs → EachHasType held (trees_of vs) t
  each_in_sequence [] t h = tt
  each_in_sequence (v ∷ vs) t h = (h.0, each_in_sequence vs t h.1)

  pub reads_int : (v : ValueTree) → HasType held v type.int → Reads (as_int v) Any
  reads_int (int n) h = tt
  reads_int v h = absurd h

  pub reads_bool : (v : ValueTree) → HasType held v type.bool → Reads (as_bool v) Any
  reads_bool (boolean b) h = tt
  reads_bool v h = absurd h

  pub reads_char : (v : ValueTree) → HasType held v type.char → Reads (as_char v) Any
  reads_char (character c) h = tt
  reads_char v h = absurd h

  pub reads_pair : (t u : Term) (v : ValueTree) → HasType held v (type.pair_of t u) → Reads (as_pair v) (λ p. HasType held p.0 t × HasType held p.1 u)
  reads_pair t u (pair l r) h = h
  reads_pair t u v h = absurd h

  pub reads_sequence : (t : Term) (v : ValueTree) → HasType held v (type.seq_of t) → Reads (as_sequence v) (Each (λ v. HasType held v t))
  reads_sequence t (seq vs) h = each_listed vs t h
  reads_sequence t v h = absurd h

  -- the parts of a pair, read each
  pub reads_parts : {X Y : Type 0} (P : X → Type 0) (Q : Y → Type 0) (t u : Term) (f : ValueTree → Option X) (g : ValueTree → Option Y) (v : ValueTree)
      → ((w : ValueTree) → HasType held w t → Reads (f w) P) → ((w : ValueTree) → HasType held w u → Reads (g w) Q)
      → HasType held v (type.pair_of t u) → Reads (option_and_then (λ p. both_parts (f p.0) (g p.1)) (as_pair v)) (λ x. P x.0 × Q x.1)
  reads_parts P Q t u f g (pair l r) k m h = read_both P Q (f l) (g r) (k l h.0) (m r h.1)
  reads_parts P Q t u f g v k m h = absurd h

  -- the elements of a sequence, read each
  pub reads_elements : {X : Type 0} (P : X → Type 0) (t : Term) (f : ValueTree → Option X) (v : ValueTree)
      → ((w : ValueTree) → HasType held w t → Reads (f w) P)
      → HasType held v (type.seq_of t) → Reads (option_and_then (all_of f) (as_sequence v)) (Each P)
  reads_elements P t f (seq vs) k h = read_all (λ w. HasType held w t) P f (list_of vs) k (each_listed vs t h)
  reads_elements P t f v k h = absurd h

  pub reads_sequence_and_int : (t : Term) (v : ValueTree) → HasType held v (type.pair_of (type.seq_of t) type.int)
      → Reads (sequence_and_int v) (λ p. Each (λ w. HasType held w t) p.0 × Any p.1)
  reads_sequence_and_int t v h = reads_parts (Each (λ w. HasType held w t)) Any (type.seq_of t) type.int as_sequence as_int v (reads_sequence t) reads_int h

  pub reads_two_sequences : (t u : Term) (v : ValueTree) → HasType held v (type.pair_of (type.seq_of t) (type.seq_of u))
      → Reads (two_sequences v) (λ p. Each (λ w. HasType held w t) p.0 × Each (λ w. HasType held w u) p.1)
  reads_two_sequences t u v h =
      reads_parts (Each (λ w. HasType held w t)) (Each (λ w. HasType held w u)) (type.seq_of t) (type.seq_of u) as_sequence as_sequence v (reads_sequence t) (reads_sequence u) h

  pub reads_tree_and_int : (t : Term) (v : ValueTree) → HasType held v (type.pair_of t type.int) → Reads (tree_and_int v) (λ p. HasType held p.0 t)
  reads_tree_and_int t (pair l (int k)) h = h.0
  reads_tree_and_int t (pair l r) h = absurd h.1
  reads_tree_and_int t v h = absurd h

  pub reads_item_place : (t : Term) (v : ValueTree) → HasType held v (type.pair_of (type.seq_of t) (type.pair_of t type.int))
      → Reads (sequence_item_place v) (λ p. Each (λ w. HasType held w t) p.0 × HasType held p.1.0 t)
  reads_item_place t v h =
      reads_parts (Each (λ w. HasType held w t)) (λ p. HasType held p.0 t) (type.seq_of t) (type.pair_of t type.int) as_sequence tree_and_int v (reads_sequence t) (reads_tree_and_int t) h

  pub reads_two_ints : (v : ValueTree) → HasType held v (type.pair_of type.int type.int) → Reads (two_ints v) (λ p. Any p.0 × Any p.1)
  reads_two_ints v h = reads_parts Any Any type.int type.int as_int as_int v reads_int reads_int h

  pub reads_three_ints : (v : ValueTree) → HasType held v (type.pair_of type.int (type.pair_of type.int type.int)) → Reads (three_ints v) (λ p. Any p.0 × (Any p.1.0 × Any p.1.1))
  reads_three_ints v h = reads_parts Any (λ p. Any p.0 × Any p.1) type.int (type.pair_of type.int type.int) as_int two_ints v reads_int reads_two_ints h

  pub reads_numbers : (v : ValueTree) → HasType held v (type.seq_of type.int) → Reads (numbers v) (Each Any)
  reads_numbers v h = reads_elements Any type.int as_int v reads_int h

  pub reads_truths : (v : ValueTree) → HasType held v (type.seq_of type.bool) → Reads (truths v) (Each Any)
  reads_truths v h = reads_elements Any type.bool as_bool v reads_bool h

  pub reads_sequences : (t : Term) (v : ValueTree) → HasType held v (type.seq_of (type.seq_of t)) → Reads (sequences v) (Each (Each (λ w. HasType held w t)))
  reads_sequences t v h = reads_elements (Each (λ w. HasType held w t)) (type.seq_of t) as_sequence v (reads_sequence t) h

  pub reads_pairs : (t u : Term) (v : ValueTree) → HasType held v (type.seq_of (type.pair_of t u)) → Reads (sequence_of_pairs v) (Each (λ p. HasType held p.0 t × HasType held p.1 u))
  reads_pairs t u v h = reads_elements (λ p. HasType held p.0 t × HasType held p.1 u) (type.pair_of t u) as_pair v (reads_pair t u) h

  pub reads_sequence_and_truths : (t : Term) (v : ValueTree) → HasType held v (type.pair_of (type.seq_of t) (type.seq_of type.bool))
      → Reads (sequence_and_truths v) (λ p. Each (λ w. HasType held w t) p.0 × Each Any p.1)
  reads_sequence_and_truths t v h =
      reads_parts (Each (λ w. HasType held w t)) (Each Any) (type.seq_of t) (type.seq_of type.bool) as_sequence truths v (reads_sequence t) reads_truths h

  pub reads_sequence_and_numbers : (t : Term) (v : ValueTree) → HasType held v (type.pair_of (type.seq_of t) (type.seq_of type.int))
      → Reads (sequence_and_numbers v) (λ p. Each (λ w. HasType held w t) p.0 × Each Any p.1)
  reads_sequence_and_numbers t v h =
      reads_parts (Each (λ w. HasType held w t)) (Each Any) (type.seq_of t) (type.seq_of type.int) as_sequence numbers v (reads_sequence t) reads_numbers h

  -- where the elements of the second sequence have a type, they are read
  pub reads_all_ints : (vs : List ValueTree) → Each (λ w. HasType held w type.int) vs → Reads (all_of as_int vs) (Each Any)
  reads_all_ints vs h = read_all (λ w. HasType held w type.int) Any as_int vs reads_int h

  pub reads_int_and_tree : (t : Term) (v : ValueTree) → HasType held v (type.pair_of type.int t) → Reads (int_and_tree v) (λ p. HasType held p.1 t)
  reads_int_and_tree t (pair (int z) r) h = h.1
  reads_int_and_tree t (pair l r) h = absurd h.0
  reads_int_and_tree t v h = absurd h

  pub reads_all_writes : (t : Term) (vs : List ValueTree) → Each (λ w. HasType held w (type.pair_of type.int t)) vs → Reads (all_of int_and_tree vs) (Each (λ p. HasType held p.1 t))
  reads_all_writes t vs h = read_all (λ w. HasType held w (type.pair_of type.int t)) (λ p. HasType held p.1 t) int_and_tree vs (reads_int_and_tree t) h
