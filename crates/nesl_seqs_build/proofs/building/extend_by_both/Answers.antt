use Rattle.std.proofs.Common.{◌++◌, ◌∙◌, ap}
use Rattle.std.proofs.lemmas.List.{append_assoc}
use Rattle.std.proofs.lemmas.Result.{IfOk-equal}
use Rattle.nesl_values.specs.View.{item_trees}
use Rattle.nesl_values_builder.specs.Elements.{elements_of}
use Rattle.nesl_seqs_build.proofs.building.extend_by_both.Goals as goal

pub returns : goal.returns
returns g c =
    let us = item_trees c.args.other in
    IfOk-equal c.extend-2.result _ _ _ c.extend-2.ensures (ap (λ ts. ts ++ us) c.in_ok-extend.ensures ∙ append_assoc (elements_of c.args.builder.now) (item_trees c.args.one) us)
