use Rattle.std.proofs.Common.{◌∙◌, ap, sym, refl, w64, FitsSigned, rules}
use Rattle.std.proofs.lemmas.Int.{to_z-of_z}
use Rattle.nesl_values.specs.View.{item_trees}
use Rattle.nesl_seqs_base.specs.Arguments.{sequence_and_int}
use Rattle.nesl_seqs_base.specs.Lent.{argument_tree}
use Rattle.nesl_seqs_base.specs.Pieces.{element_at}
use Rattle.nesl_seqs_build.specs.declared.plan.Plan.{Plan}
use Rattle.nesl_seqs_build.proofs.Planned.{plan_unread}
use Rattle.nesl_seqs_build.proofs.pieces.plan_element_at.Goals as goal

pub returns : goal.returns
returns g c =
    let ts = item_trees c.in-Some.items in
    let fits : FitsSigned w64 c.in-Some.place = search rules in
    plan_unread (sequence_and_int (argument_tree c.args.argument)) (ts, c.in-Some.place) (λ p. element_at p.0 p.1) (Plan.Element c.in_ok-element.element) c.in-Some.ensures.parts (ap (element_at ts) (sym (to_z-of_z w64 c.in-Some.place fits)) ∙ c.in_ok-element.ensures) refl tt
