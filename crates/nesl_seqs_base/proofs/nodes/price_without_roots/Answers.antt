use Rattle.std.proofs.Common.{length, map, arith}
use Rattle.std.proofs.lemmas.List.{length-map}
use Rattle.nesl_values.specs.View.{tree_of}
use Rattle.nesl_seqs_base.proofs.Sizes.{length_le}
use Rattle.nesl_seqs_base.proofs.Priced.{price_of_rest}
use Rattle.nesl_seqs_base.proofs.nodes.price_without_roots.Goals as goal

pub overflow_sub-result : goal.overflow_sub-result
overflow_sub-result g c =
    omega (arith, length_le (map tree_of c.args.values.now), length-map c.args.values.now tree_of, c.in_ok-total.ensures)

pub returns : goal.returns
returns g c t is =
    price_of_rest c.args.more c.in_ok-total.total (length c.args.values.now) c.args.limit t c.requires (omega (arith, length_le (map tree_of c.args.values.now), length-map c.args.values.now tree_of, c.in_ok-total.ensures)) (omega (arith, c.in_ok-total.ensures)) (omega (arith, c.if-limit-more.false)) (omega (arith, is, c.in_ok-total.ensures))
