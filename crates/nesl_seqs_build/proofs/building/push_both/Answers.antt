use Rattle.std.proofs.Common.{◌++◌, ◌∷◌, [], ◌∙◌, ap}
use Rattle.std.proofs.lemmas.List.{append_assoc}
use Rattle.std.proofs.lemmas.Result.{IfOk-equal}
use Rattle.nesl_values.specs.View.{tree_of}
use Rattle.nesl_values_builder.specs.Elements.{elements_of}
use Rattle.nesl_seqs_build.proofs.building.push_both.Goals as goal

pub returns : goal.returns
returns g c =
    let us = tree_of c.args.other ∷ [] in
    IfOk-equal c.push-2.result _ _ _ c.push-2.ensures.ok (ap (λ ts. ts ++ us) c.in_ok-push.ensures.ok ∙ append_assoc (elements_of c.args.builder.now) (tree_of c.args.one ∷ []) us)
