-- Sequences of pairs.
use Rattle.std.specs.Prelude.{List, length, map, zip, cond, nat_eq}
use Rattle.nesl_scalars.specs.declared.trap.Trap.TheVariants.{Length}
use Rattle.nesl_values.specs.Tree.{ValueTree, pair, sequence}
use Rattle.nesl_seqs_base.specs.Outcome.{Outcome, gives, traps}

-- the pairs of elements at the same place
abbrev pub pairs : List ValueTree → List ValueTree → List ValueTree
pairs ts us = map (λ p. pair p.0 p.1) (zip ts us)

-- `zip(v, w)`: of two sequences of one length
abbrev pub zipped : List ValueTree → List ValueTree → Outcome
zipped ts us = cond (nat_eq (length ts) (length us)) (gives (sequence (pairs ts us))) (traps Length)
