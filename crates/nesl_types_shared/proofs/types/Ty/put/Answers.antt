use Rattle.std.proofs.Common.{OnOk, subst}
use Rattle.nesl_types_shared.specs.Term.{Term}
use Rattle.nesl_types_shared.specs.Substitution.{substitute}
use Rattle.nesl_types_shared.specs.Renames.{replacement, HaveVariablesOf}
use Rattle.nesl_types_shared.proofs.types.Ty.put.Goals as goal

pub returns-clause-below : goal.returns-clause-below
returns-clause-below c =
    let old = c.args.to.now in
    subst (λ (t : Term). OnOk c.put.result (HaveVariablesOf old c.put.new.to (substitute (replacement old c.args.of.now) t))) c.whole.ensures c.put.ensures.below
