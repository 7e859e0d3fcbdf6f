-- A price's depth is at least 1, and at most its work.
use Rattle.std.proofs.Common.{ℕ, zero, suc, ◌+◌, ◌^◌, ◌≤◌, Bool, true, false, cond, nat_le, arith}
use Rattle.nesl_seqs_base.specs.Prices.{powers_within, digits, depth_of}
use Rattle.nesl_seqs_base.specs.declared.seq_fn.SeqFn.{SeqFn}
use Rattle.nesl_seqs_base.specs.declared.seq_fn.SeqFn.TheVariants.{Length, ElementAt, Append, Dist, Range, RangeBy, Index, Sum, Any, All, Count, Bottop, Take, Drop, Reverse, Rotate, Zip, Rep, Eql, MaxVal, MinVal, MaxIndex, MinIndex, PlusScan, OrScan, AndScan, Flatten, Unzip, OddElts, EvenElts, Interleave, Gather, Permute, Split, Partition, Write}

at_most_one : (b : Bool) → cond b 1 0 ≤ 1
at_most_one true = omega arith
at_most_one false = omega arith

powers_few : (k n : ℕ) → powers_within k n ≤ k
powers_few zero n = omega arith
powers_few (suc k) n = omega (arith, powers_few k n, at_most_one (nat_le (2 ^ k) n))

digits_few : (n : ℕ) → digits n ≤ n
unfolding digits
digits_few n = powers_few n n

pub depth_fits : (f : SeqFn) (n : ℕ) → (1 ≤ depth_of f n) × (depth_of f n ≤ 1 + n)
depth_fits Length n = (omega arith, omega arith)
depth_fits ElementAt n = (omega arith, omega arith)
depth_fits Append n = (omega arith, omega arith)
depth_fits Dist n = (omega arith, omega arith)
depth_fits Range n = (omega arith, omega arith)
depth_fits RangeBy n = (omega arith, omega arith)
depth_fits Index n = (omega arith, omega arith)
depth_fits Sum n = (omega arith, omega (arith, digits_few n))
depth_fits Any n = (omega arith, omega (arith, digits_few n))
depth_fits All n = (omega arith, omega (arith, digits_few n))
depth_fits Count n = (omega arith, omega (arith, digits_few n))
depth_fits Bottop n = (omega arith, omega arith)
depth_fits Take n = (omega arith, omega arith)
depth_fits Drop n = (omega arith, omega arith)
depth_fits Reverse n = (omega arith, omega arith)
depth_fits Rotate n = (omega arith, omega arith)
depth_fits Zip n = (omega arith, omega arith)
depth_fits Rep n = (omega arith, omega arith)
depth_fits Eql n = (omega arith, omega arith)
depth_fits MaxVal n = (omega arith, omega (arith, digits_few n))
depth_fits MinVal n = (omega arith, omega (arith, digits_few n))
depth_fits MaxIndex n = (omega arith, omega (arith, digits_few n))
depth_fits MinIndex n = (omega arith, omega (arith, digits_few n))
depth_fits PlusScan n = (omega arith, omega (arith, digits_few n))
depth_fits OrScan n = (omega arith, omega (arith, digits_few n))
depth_fits AndScan n = (omega arith, omega (arith, digits_few n))
depth_fits Flatten n = (omega arith, omega arith)
depth_fits Unzip n = (omega arith, omega arith)
depth_fits OddElts n = (omega arith, omega arith)
depth_fits EvenElts n = (omega arith, omega arith)
depth_fits Interleave n = (omega arith, omega arith)
depth_fits Gather n = (omega arith, omega arith)
depth_fits Permute n = (omega arith, omega arith)
depth_fits Split n = (omega arith, omega arith)
depth_fits Partition n = (omega arith, omega arith)
depth_fits Write n = (omega arith, omega arith)
