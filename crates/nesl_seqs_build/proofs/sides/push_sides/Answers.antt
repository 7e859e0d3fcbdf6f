use Rattle.std.proofs.Common.{◌≡◌, ◌++◌, ◌∙◌, List, Some, map, slice_get, take, refl, ap, sym, arith}
use Rattle.std.proofs.lemmas.List.{take_all}
use Rattle.nesl_values.specs.Tree.{ValueTree}
use Rattle.nesl_values.specs.Parts.{as_pair}
use Rattle.nesl_values.specs.View.{tree_of}
use Rattle.nesl_values_builder.specs.Elements.{elements_of}
use Rattle.nesl_seqs_base.specs.Reductions.{all_of}
use Rattle.nesl_seqs_base.proofs.Shapes.{read_at, length_read, some_within}
use Rattle.nesl_seqs_build.proofs.Unzipping.{side_turn}
use Rattle.nesl_seqs_build.proofs.sides.push_sides.Goals as goal
use Rattle.nesl_seqs_build.proofs.sides.push_sides.Goals.{in-Some+in_ok-push_part+in_ok-push_part-2, in_default}

pub loop-value-preserved : goal.loop-value-preserved
loop-value-preserved g c ps h =
    let vs = c.args.values.now in
    let i = c.loop-value.value-index in
    let here = read_at as_pair tree_of vs ps i c.value-item.result h c.loop-value-test.true c.value-item.is in
    let so_far = c.loop-value.invariant ps h in
    elim c.match-as_pair.branch [
      | in-Some+in_ok-push_part+in_ok-push_part-2 w ↦ (
          let p : ValueTree × ValueTree = (tree_of w.in-Some.left.now, tree_of w.in-Some.right.now) in
          let at : slice_get ps i ≡ Some p = sym here ∙ sym w.in-Some.ensures in (
            ap elements_of w.lefts-is ∙ side_turn (λ q. q.0) ps i p _ (elements_of c.loop-value.lefts) _ _ at so_far.0 w.in_ok-push_part.ensures refl,
            ap elements_of w.rights-is ∙ side_turn (λ q. q.1) ps i p _ (elements_of c.loop-value.rights) _ _ at so_far.1 w.in_ok-push_part-2.ensures refl,
          ))
      | in_default w ↦ absurd (some_within ps i (omega (arith, length_read as_pair tree_of vs ps h, c.loop-value-test.true)) (w.in_default.ensures ∙ here))
    ]

pub returns : goal.returns
returns g c =
    let vs = c.args.values.now in
    let i = c.loop-value.value-index in
    let all : (ps : List (ValueTree × ValueTree)) → all_of as_pair (map tree_of vs) ≡ Some ps → take i ps ≡ ps = λ ps h. take_all i ps (omega (arith, length_read as_pair tree_of vs ps h, c.loop-value-test.false)) in
    record {
      lefts = λ ps h. (c.loop-value.invariant ps h).0 ∙ ap (λ qs. elements_of c.args.lefts.now ++ map (λ (q : ValueTree × ValueTree). q.0) qs) (all ps h);
      rights = λ ps h. (c.loop-value.invariant ps h).1 ∙ ap (λ qs. elements_of c.args.rights.now ++ map (λ (q : ValueTree × ValueTree). q.1) qs) (all ps h);
    }
