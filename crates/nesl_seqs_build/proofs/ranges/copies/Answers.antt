use Rattle.std.proofs.Common.{◌∙◌, ap, replicate, rules, w64, FitsSigned}
use Rattle.std.proofs.lemmas.Int.{to_z-of_z}
use Rattle.nesl_values.specs.Tree.{int, boolean, character}
use Rattle.nesl_values.specs.View.{tree_of}
use Rattle.nesl_seqs_base.proofs.Made.{made}
use Rattle.nesl_seqs_build.proofs.Numbers.{map_replicate}
use Rattle.nesl_seqs_build.proofs.ranges.copies.Goals as goal

pub returns-in_ok-repeated-in-Int : goal.returns-in_ok-repeated-in-Int
returns-in_ok-repeated-in-Int g c =
    let fits : FitsSigned w64 c.in-Int.n = search rules in
    made _ _ _ c.ints.ensures (map_replicate int c.args.count c.in-Int.n _ _ (c.in_ok-repeated-in-Int.ensures ∙ ap (replicate c.args.count) (to_z-of_z w64 c.in-Int.n fits)) (ap tree_of c.in-Int.is))

pub returns-in_ok-repeated-in-Bool : goal.returns-in_ok-repeated-in-Bool
returns-in_ok-repeated-in-Bool g c =
    made _ _ _ c.bools.ensures (map_replicate boolean c.args.count c.in-Bool.b _ _ c.in_ok-repeated-in-Bool.ensures (ap tree_of c.in-Bool.is))

pub returns-in_ok-repeated-in-Char : goal.returns-in_ok-repeated-in-Char
returns-in_ok-repeated-in-Char g c =
    made _ _ _ c.chars.ensures (map_replicate character c.args.count c.in-Char.c _ _ c.in_ok-repeated-in-Char.ensures (ap tree_of c.in-Char.is))
