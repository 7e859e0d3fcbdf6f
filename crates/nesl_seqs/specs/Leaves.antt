-- Sequences of leaves as results.
use Rattle.std.specs.Prelude.{◌^◌, ℤ, pos, negsuc, Bool, nat_lt, List, map}
use Rattle.nesl_values.specs.Tree.{ValueTree, int, boolean, sequence}
use Rattle.nesl_values.specs.Parts.{as_int, as_bool}
use Rattle.nesl_seqs_base.specs.Outcome.{Outcome, gives, if_there, if_there_or}
use Rattle.nesl_seqs_base.specs.Reductions.{all_of}
use Rattle.nesl_seqs_base.specs.Scans.{before_each, joined_truths, joined_bits}
use Rattle.nesl_seqs_base.specs.declared.joint.Joint.{Joint}

-- from -2^31 to 2^31 - 1
abbrev pub is_short : ℤ → Bool
is_short (pos n) = nat_lt n (2 ^ 31)
is_short (negsuc n) = nat_lt n (2 ^ 31)

-- `or_scan` and `and_scan` of these elements
abbrev pub logic_of : Joint → List ValueTree → Outcome
logic_of j ts =
    if_there_or (all_of as_bool ts) (λ bs. gives (sequence (map boolean (before_each (joined_truths j) bs))))
    (if_there (all_of as_int ts) (λ zs. gives (sequence (map int (before_each (joined_bits j) zs)))))
