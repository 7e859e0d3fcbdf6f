use Rattle.std.proofs.Common.{◌≡◌, take}
use Rattle.std.specs.List.{flat_map}
use Rattle.nesl_values.specs.Parts.{elements}
use Rattle.nesl_values.specs.View.{tree_of}
use Rattle.nesl_values_builder.specs.Elements.{elements_of}
use Rattle.nesl_seqs_build.proofs.levels.all_elements.Given as goal

abbrev pub invariant-loop-value : goal.invariant-loop-value
invariant-loop-value g l = elements_of l.builder ≡ flat_map (λ v. elements (tree_of v)) (take l.value-index l.values)
