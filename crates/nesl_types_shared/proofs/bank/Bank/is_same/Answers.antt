use Rattle.std.proofs.Common.{ap}
use Rattle.std.proofs.lemmas.Bool.{eq-eqb, eqb-true}
use Rattle.nesl_types_shared.specs.Types.{type_at}
use Rattle.nesl_types_shared.proofs.Once.{same_place}
use Rattle.nesl_types_shared.proofs.bank.Bank.is_same.Goals as goal

pub returns : goal.returns
returns c =
    let p = c.args.first in
    let q = c.args.second in (
      λ h. ap (type_at c.args.self.now) (eqb-true p q h),
      λ h. eq-eqb p q (same_place c.self.inside.shapes.items c.args.self.now c.self.invariant.0.made c.self.invariant.0.once c.self.view_is p q c.requires.first c.requires.second h),
    )
