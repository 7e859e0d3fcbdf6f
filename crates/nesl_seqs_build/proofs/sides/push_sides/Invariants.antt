use Rattle.std.proofs.Common.{◌≡◌, ◌++◌, List, Some, map, take}
use Rattle.nesl_values.specs.Tree.{ValueTree}
use Rattle.nesl_values.specs.Parts.{as_pair}
use Rattle.nesl_values.specs.View.{tree_of}
use Rattle.nesl_values_builder.specs.Elements.{elements_of}
use Rattle.nesl_seqs_base.specs.Reductions.{all_of}
use Rattle.nesl_seqs_build.proofs.sides.push_sides.Given as goal

abbrev pub invariant-loop-value : goal.invariant-loop-value
invariant-loop-value g l =
    (ps : List (ValueTree × ValueTree)) → all_of as_pair (map tree_of l.values) ≡ Some ps → (elements_of l.lefts ≡ elements_of l.fn.lefts ++ map (λ p. p.0) (take l.value-index ps)) × (elements_of l.rights ≡ elements_of l.fn.rights ++ map (λ p. p.1) (take l.value-index ps))
