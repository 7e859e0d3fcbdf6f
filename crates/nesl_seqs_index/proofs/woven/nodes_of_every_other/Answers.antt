use Rattle.std.proofs.Common.{◌≡◌, ◌≤◌, SomeIff, subst, arith}
use Rattle.nesl_values.specs.Tree.{sizes, trees_of}
use Rattle.nesl_values.specs.View.{item_trees}
use Rattle.nesl_seqs_base.specs.Woven.{evens}
use Rattle.nesl_seqs_base.proofs.Weaving.{packed_evens}
use Rattle.nesl_seqs_index.proofs.woven.nodes_of_every_other.Goals as goal

pub returns-in_default : goal.returns-in_default
returns-in_default g c =
    let half : c.div_ceil.result ≡ sizes (trees_of (evens (item_trees c.args.items))) = omega (arith, packed_evens c.args.items c.in_default.not-Values, c.div_ceil.ensures, c.len.ensures) in
    subst (λ n. SomeIff c.leaves.result (n ≤ c.args.limit) n) half c.leaves.ensures
