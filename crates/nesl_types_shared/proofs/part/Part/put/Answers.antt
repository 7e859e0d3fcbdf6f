use Rattle.std.proofs.Common.{◌≡◌, OnOk, subst, rules}
use Rattle.nesl_types_shared.specs.Term.{Term}
use Rattle.nesl_types_shared.specs.Substitution.{substitute}
use Rattle.nesl_types_shared.specs.Types.{type_at}
use Rattle.nesl_types_shared.specs.Renames.{replacement, HaveVariablesOf}
use Rattle.nesl_types_shared.proofs.part.Part.put.Goals as goal

pub returns-clause-below : goal.returns-clause-below
returns-clause-below c =
    let old = c.args.to.now in
    let e : type_at c.self.inside.parts c.self.inside.place ≡ c.args.self.now = search rules in
    subst (λ (t : Term). OnOk c.rename_part.result (HaveVariablesOf old c.rename_part.new.to (substitute (replacement old c.args.of.now) t))) e c.rename_part.ensures.below
