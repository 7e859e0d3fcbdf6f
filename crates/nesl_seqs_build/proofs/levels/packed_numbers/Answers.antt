use Rattle.std.proofs.Common.{◌++◌, ◌∷◌, [], rules, w64, FitsSigned, ◌∙◌, ap, map, pos, unwrap_or}
use Rattle.std.proofs.lemmas.Int.{to_z-of_z}
use Rattle.std.proofs.lemmas.List.{take_all}
use Rattle.nesl_values.specs.Parts.{as_int}
use Rattle.nesl_values.specs.View.{tree_of}
use Rattle.nesl_seqs_base.proofs.Shapes.{map_turn}
use Rattle.nesl_seqs_build.proofs.levels.packed_numbers.Goals as goal

pub loop-value-preserved : goal.loop-value-preserved
loop-value-preserved g c =
    let fits : FitsSigned w64 c.unwrap_or.result = search rules in
    map_turn (λ v. unwrap_or (as_int (tree_of v)) (pos 0)) c.args.values.now c.loop-value.value-index c.value-item.result c.unwrap_or.result c.loop-value.ints.items _ c.loop-value-test.true c.value-item.is c.loop-value.invariant (c.in_ok-push.ensures.items ∙ ap (λ z. c.loop-value.ints.items ++ z ∷ []) (to_z-of_z w64 c.unwrap_or.result fits)) (c.unwrap_or.ensures ∙ ap (λ o. unwrap_or o (pos 0)) c.as_int.ensures)

pub returns : goal.returns
returns g c =
    c.loop-value.invariant ∙ ap (map (λ v. unwrap_or (as_int (tree_of v)) (pos 0))) (take_all c.loop-value.value-index c.args.values.now c.loop-value-test.false)
