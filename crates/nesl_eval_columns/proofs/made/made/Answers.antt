use Rattle.std.proofs.Common.{◌≡◌}
use Rattle.nesl_scalars.specs.Outcomes.{gives}
use Rattle.nesl_scalars.specs.Scalars.{binary}
use Rattle.nesl_eval_columns.proofs.Turns.{three_mapped, some_so}
use Rattle.nesl_eval_columns.proofs.made.made.Goals as goal

pub returns : goal.returns
returns g c = some_so _ _ (λ v e. three_mapped _ (λ x y z. binary c.args.function x y ≡ gives z) g.X.Leaf.leaf g.X.Leaf.leaf g.Z.Leaf.leaf (λ x y z e. c.requires.law x y z e) c.args.left.now c.args.right.now v.items e) c.each_of_two.result c.each_of_two.ensures
