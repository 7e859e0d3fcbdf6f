-- What a function costs, from its argument and its result alone.
use Rattle.std.specs.Prelude.{◌≡◌, ℕ, zero, suc, ◌+◌, ◌-◌, ◌^◌, cond, nat_le, length, option_map}
use Rattle.std.specs.Prelude.{unwrap_or, Result}
use Rattle.nesl_scalars.specs.declared.trap.Trap.{Trap}
use Rattle.nesl_values.specs.Tree.{ValueTree, size}
use Rattle.nesl_values.specs.Parts.{as_pair, as_sequence}
use Rattle.nesl_seqs_base.specs.Outcome.{Outcome, OutcomeGives}
use Rattle.nesl_seqs_base.specs.Arguments.{sequence_and_int, two_sequences, sequence_item_place}
use Rattle.nesl_seqs_base.specs.declared.price.Price.{Price}
use Rattle.nesl_seqs_base.specs.declared.seq_fn.SeqFn.{SeqFn}
use Rattle.nesl_seqs_base.specs.declared.seq_fn.SeqFn.TheVariants.{Length, ElementAt, Append, Dist, Range, RangeBy}
use Rattle.nesl_seqs_base.specs.declared.seq_fn.SeqFn.TheVariants.{Index, Sum, Any, All, Count, Bottop, Take, Drop}
use Rattle.nesl_seqs_base.specs.declared.seq_fn.SeqFn.TheVariants.{Reverse, Rotate, Zip, Rep, Eql, MaxVal, MinVal}
use Rattle.nesl_seqs_base.specs.declared.seq_fn.SeqFn.TheVariants.{MaxIndex, MinIndex, PlusScan, OrScan, AndScan}
use Rattle.nesl_seqs_base.specs.declared.seq_fn.SeqFn.TheVariants.{Flatten, Unzip, OddElts, EvenElts, Interleave}
use Rattle.nesl_seqs_base.specs.declared.seq_fn.SeqFn.TheVariants.{Gather, Permute, Split, Partition, Write}

-- the length of a sequence
abbrev pub length_of : ValueTree → ℕ
length_of t = unwrap_or (option_map length (as_sequence t)) 0

-- how many elements the function reads: the lengths of its arguments that are sequences by its type; none for `#v`
-- and `v[i]`, and all nodes for `eql`
abbrev pub reads : SeqFn → ValueTree → ℕ
reads Length t = 0
reads ElementAt t = 0
reads Append t = unwrap_or (option_map (λ p. length p.0 + length p.1) (two_sequences t)) 0
reads Dist t = 0
reads Range t = 0
reads RangeBy t = 0
reads Index t = 0
reads Sum t = length_of t
reads Any t = length_of t
reads All t = length_of t
reads Count t = length_of t
reads Bottop t = length_of t
reads Take t = unwrap_or (option_map (λ p. length p.0) (sequence_and_int t)) 0
reads Drop t = unwrap_or (option_map (λ p. length p.0) (sequence_and_int t)) 0
reads Reverse t = length_of t
reads Rotate t = unwrap_or (option_map (λ p. length p.0) (sequence_and_int t)) 0
reads Zip t = unwrap_or (option_map (λ p. length p.0 + length p.1) (two_sequences t)) 0
reads Rep t = unwrap_or (option_map (λ p. length p.0) (sequence_item_place t)) 0
reads Eql t = unwrap_or (option_map (λ p. size p.0 + size p.1) (as_pair t)) 0
reads MaxVal t = length_of t
reads MinVal t = length_of t
reads MaxIndex t = length_of t
reads MinIndex t = length_of t
reads PlusScan t = length_of t
reads OrScan t = length_of t
reads AndScan t = length_of t
reads Flatten t = length_of t
reads Unzip t = length_of t
reads OddElts t = length_of t
reads EvenElts t = length_of t
reads Interleave t = unwrap_or (option_map (λ p. length p.0 + length p.1) (two_sequences t)) 0
reads Gather t = unwrap_or (option_map (λ p. length p.0 + length p.1) (two_sequences t)) 0
reads Permute t = unwrap_or (option_map (λ p. length p.0 + length p.1) (two_sequences t)) 0
reads Split t = unwrap_or (option_map (λ p. length p.0 + length p.1) (two_sequences t)) 0
reads Partition t = unwrap_or (option_map (λ p. length p.0 + length p.1) (two_sequences t)) 0
reads Write t = unwrap_or (option_map (λ p. length p.0 + length p.1) (two_sequences t)) 0

-- how many of the first k powers of two are at most n
abbrev pub powers_within : ℕ → ℕ → ℕ
powers_within zero n = 0
powers_within (suc k) n = powers_within k n + cond (nat_le (2 ^ k) n) 1 0

-- how many binary digits n has: as many as there are powers of two up to it
unfoldable pub digits : ℕ → ℕ
digits n = powers_within n n

-- the longest chain of steps: one, and for a reduction or a scan as many more as the number of elements has binary
-- digits
abbrev pub depth_of : SeqFn → ℕ → ℕ
depth_of Sum n = 1 + digits n
depth_of Any n = 1 + digits n
depth_of All n = 1 + digits n
depth_of Count n = 1 + digits n
depth_of MaxVal n = 1 + digits n
depth_of MinVal n = 1 + digits n
depth_of MaxIndex n = 1 + digits n
depth_of MinIndex n = 1 + digits n
depth_of PlusScan n = 1 + digits n
depth_of OrScan n = 1 + digits n
depth_of AndScan n = 1 + digits n
depth_of _ n = 1

-- the price of a result: 1, the elements read and the nodes below the result's root
abbrev pub price : ℕ → ℕ → ValueTree → Price
price read depth t = record { work = 1 + read + (size t - 1); depth = depth; nodes = size t }

-- what an outcome is priced as: a result by its price, a refusal by itself
abbrev pub Prices : Outcome → ℕ → ℕ → Result Price Trap → Type 0
Prices o read depth r = OutcomeGives (λ t p. p ≡ price read depth t) o r
