-- Elements at the places that numbers name.
use Rattle.std.specs.Prelude.{ℤ, List, length}
use Rattle.nesl_values.specs.Tree.{ValueTree, sequence}
use Rattle.nesl_seqs_base.specs.Outcome.{Outcome, gives}
use Rattle.nesl_seqs_base.specs.Places.{at_places, elements_at}

-- `v -> i`: the elements at the indices
abbrev pub gathered : List ValueTree → List ℤ → Outcome
gathered ts zs = at_places (length ts) zs (λ ks. gives (sequence (elements_at ts ks)))
