use Rattle.std.proofs.Common.{◌≡◌, false, map, take, unwrap_or}
use Rattle.nesl_values.specs.Parts.{as_bool}
use Rattle.nesl_values.specs.View.{tree_of}
use Rattle.nesl_seqs_build.proofs.sides.packed_truths.Given as goal

abbrev pub invariant-loop-value : goal.invariant-loop-value
invariant-loop-value g l = l.bools.items ≡ map (λ v. unwrap_or (as_bool (tree_of v)) false) (take l.value-index l.values)
