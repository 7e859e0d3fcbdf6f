use Rattle.std.proofs.Common.{◌≡◌, pos, map, take, unwrap_or}
use Rattle.nesl_values.specs.Parts.{as_int}
use Rattle.nesl_values.specs.View.{tree_of}
use Rattle.nesl_seqs_build.proofs.levels.packed_numbers.Given as goal

abbrev pub invariant-loop-value : goal.invariant-loop-value
invariant-loop-value g l = l.ints.items ≡ map (λ v. unwrap_or (as_int (tree_of v)) (pos 0)) (take l.value-index l.values)
