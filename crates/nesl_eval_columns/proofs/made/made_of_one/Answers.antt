use Rattle.std.proofs.Common.{◌≡◌}
use Rattle.nesl_scalars.specs.Outcomes.{gives}
use Rattle.nesl_scalars.specs.Scalars.{unary}
use Rattle.nesl_eval_columns.proofs.Turns.{two_mapped, some_so}
use Rattle.nesl_eval_columns.proofs.made.made_of_one.Goals as goal

pub returns : goal.returns
returns g c = some_so _ _ (λ v e. two_mapped _ (λ x z. unary c.args.function x ≡ gives z) g.X.Leaf.leaf g.Z.Leaf.leaf (λ x z e. c.requires.law x z e) c.args.items.now v.items e) c.each_of.result c.each_of.ensures
