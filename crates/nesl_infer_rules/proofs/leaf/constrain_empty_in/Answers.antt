use Rattle.std.proofs.Common.{[], map, ap, ◌∙◌}
use Rattle.nesl_types_shared.specs.Substitution.{substitute}
use Rattle.nesl_types_shared.specs.Types.{type_at}
use Rattle.nesl_infer_names.specs.Names.{datatype_in}
use Rattle.nesl_syntax_tree.specs.Views.{type_tree}
use Rattle.nesl_infer_rules.specs.Instances.{type_in}
use Rattle.nesl_infer_rules.proofs.Applied.{closed-kept}
use Rattle.nesl_infer_rules.proofs.Steps.{adds_is}
use Rattle.nesl_infer_rules.proofs.Leaves.{arm_empty, arm_no_empty}
use Rattle.nesl_infer_rules.proofs.leaf.constrain_empty_in.Goals as goal

pub returns-in_ok-equate_sequence-in-Some : goal.returns-in_ok-equate_sequence-in-Some
returns-in_ok-equate_sequence-in-Some g c =
    let w = rw c.in-Some.is at c.in_ok-place.ensures.written in
    let i = c.in_ok-item-in-Some.item in
    let t = type_at c.written_type.new.bank c.in-Some.place in
    arm_empty (datatype_in c.args.context.now) (type_tree c.args.written.now) t i c.args.target c.requires.target w.1
    c.in_ok-item-in-Some.ensures.gives
    (adds_is i (λ s. substitute (type_in (map s [])) c.part.result) (λ s. t) (λ s. ap (substitute (type_in (map s []))) c.part.ensures ∙ closed-kept (type_in (map s [])) t w.2) c.in_ok-equate_instance-in-Some.ensures)
    c.in_ok-equate_sequence-in-Some.ensures

pub returns-in_ok-add_contradiction-in-None : goal.returns-in_ok-add_contradiction-in-None
returns-in_ok-add_contradiction-in-None g c =
    let w = rw c.in-None.is at c.in_ok-place.ensures.written in
    arm_no_empty (datatype_in c.args.context.now) (type_tree c.args.written.now) c.args.target w c.in_ok-add_contradiction-in-None.ensures
