use Rattle.std.proofs.Common.{arith, w64, FitsSigned, rules}
use Rattle.std.proofs.lemmas.Int.{ints}
use Rattle.nesl_values.specs.View.{tree_of}
use Rattle.nesl_seqs_base.specs.Lent.{argument_tree}
use Rattle.nesl_seqs_build.proofs.Numbers.{copies_small}
use Rattle.nesl_seqs_build.proofs.Planned.{item_small}
use Rattle.nesl_seqs_build.proofs.ranges.plan_dist.Goals as goal

pub returns-clause-few : goal.returns-clause-few
returns-clause-few g c small =
    let fits : FitsSigned w64 c.in-Some.count = search rules in
    copies_small _ (tree_of c.in-Some.item.now) (omega (arith, ints, fits)) (item_small (argument_tree c.args.argument) (tree_of c.in-Some.item.now) c.in-Some.count c.in-Some.ensures small)
