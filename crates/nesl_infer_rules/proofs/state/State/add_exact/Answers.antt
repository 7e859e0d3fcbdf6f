use Rattle.std.proofs.Common.{arith}
use Rattle.nesl_unify.specs.Flat.{flat_type}
use Rattle.nesl_infer_rules.specs.Steps.{count}
use Rattle.nesl_infer_rules.proofs.Agreement.{below-weaker}
use Rattle.nesl_infer_rules.proofs.Applied.{closed-kept}
use Rattle.nesl_infer_rules.proofs.Steps.{gives_exactly}
use Rattle.nesl_infer_rules.proofs.state.State.add_exact.Goals as goal

pub equate_flat-requires-clause-flat : goal.equate_flat-requires-clause-flat
equate_flat-requires-clause-flat c =
    below-weaker 0 (count c.add_any.new.self) (flat_type c.args.flat) (omega arith) c.requires.closed

pub returns-clause-gives : goal.returns-clause-gives
returns-clause-gives c =
    let t = flat_type c.args.flat in
    gives_exactly c.in_ok-variable.variable t c.requires.small (λ s. closed-kept s t c.requires.closed) c.in_ok-variable.ensures.gives c.in_ok-equate_flat.ensures
