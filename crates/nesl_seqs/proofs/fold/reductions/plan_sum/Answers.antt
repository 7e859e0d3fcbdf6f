use Rattle.std.proofs.Common.{◌≡◌, ◌∙◌, ◌+◌, Some, ap, sym, refl, length, map, option_map}
use Rattle.std.specs.Prelude.{unwrap_or}
use Rattle.std.proofs.lemmas.List.{length-map}
use Rattle.nesl_values.specs.Tree.{int}
use Rattle.nesl_values.specs.Parts.{as_sequence}
use Rattle.nesl_values.specs.View.{item_trees}
use Rattle.nesl_seqs_base.specs.Lent.{argument_tree}
use Rattle.nesl_seqs_base.specs.Prices.{length_of, digits}
use Rattle.nesl_seqs.proofs.Sums.{short_sum_fits, sum_planned}
use Rattle.nesl_seqs.proofs.fold.reductions.plan_sum.Goals as goal

pub returns-then-are_few_and_short : goal.returns-then-are_few_and_short
returns-then-are_few_and_short g c =
    let zs = c.in-Some-Ints.ints.now in
    let t = argument_tree c.args.argument in
    let read : Some (map int zs) ≡ as_sequence t = ap (λ i. Some (item_trees i)) (sym c.in-Some-Ints.field-0-is) ∙ ap (option_map item_trees) (sym c.in-Some-Ints.is) ∙ c.sequence.ensures.items in
    let len : length zs ≡ length_of t = sym (ap (λ o. unwrap_or (option_map length o) 0) (sym read) ∙ length-map zs int) in
    (sum_planned t zs read (short_sum_fits zs (c.if-are_few_and_short.ensures.few refl) (c.if-are_few_and_short.ensures.short refl)), len, ap (λ n. 1 + digits n) len)

pub returns : goal.returns
returns g c = c.plan_of_leaf.ensures _ c.sum.ensures
