use Rattle.std.proofs.Common.{◌≡◌, Some, sym, ap, subst, ◌∙◌}
use Rattle.std.specs.Prelude.{option_map}
use Rattle.nesl_types.specs.declared.bindings.Top.{Top}
use Rattle.nesl_infer_names.specs.Names.{datatype_in, as_datatype}
use Rattle.nesl_infer_rules.specs.Contexts.{IsClosed}
use Rattle.nesl_infer_rules.proofs.Applied.{is_a_record, no_record}
use Rattle.nesl_infer_rules.proofs.record.constrain_record.Goals as goal

pub equate_closed-requires-clause-ty : goal.equate_closed-requires-clause-ty
equate_closed-requires-clause-ty g c =
    let d = c.in-Some-Datatype-default in
    subst (λ (t : Top). IsClosed t) d.field-0-0-is (c.args.outer.now.closed c.args.name.now d.field-0-0.now d.field-0-1.now (sym d.ensures))

pub returns-in_ok-equate_closed-in-Some-Datatype-default : goal.returns-in_ok-equate_closed-in-Some-Datatype-default
returns-in_ok-equate_closed-in-Some-Datatype-default g c =
    let x = c.args.name.now in
    let d = c.in-Some-Datatype-default in
    let is : datatype_in c.args.outer.now.context.now x ≡ Some (d.tag, d.ty) = ap (λ k. as_datatype (option_map (λ b. b.0) k)) (sym d.ensures) ∙ ap (λ (t : Top). as_datatype (Some t)) d.field-0-0-is in
    is_a_record (datatype_in c.args.outer.now.context.now) x d.tag d.ty c.args.target c.args.held c.requires.held is
    c.in_ok-equate_flat-in-Some-Datatype-default.ensures
    c.in_ok-equate_closed-in-Some-Datatype-default.ensures

pub returns-in_ok-add_contradiction-in-Some-Variable-default : goal.returns-in_ok-add_contradiction-in-Some-Variable-default
returns-in_ok-add_contradiction-in-Some-Variable-default g c =
    let d = c.in-Some-Variable-default in
    no_record (datatype_in c.args.outer.now.context.now) c.args.name.now c.args.target c.args.held
    (ap (λ k. as_datatype (option_map (λ b. b.0) k)) (sym d.ensures) ∙ ap (λ (t : Top). as_datatype (Some t)) d.field-0-0-is) c.in_ok-add_contradiction-in-Some-Variable-default.ensures

pub returns-in_ok-add_contradiction-in-Some-Function-default : goal.returns-in_ok-add_contradiction-in-Some-Function-default
returns-in_ok-add_contradiction-in-Some-Function-default g c =
    let d = c.in-Some-Function-default in
    no_record (datatype_in c.args.outer.now.context.now) c.args.name.now c.args.target c.args.held
    (ap (λ k. as_datatype (option_map (λ b. b.0) k)) (sym d.ensures) ∙ ap (λ (t : Top). as_datatype (Some t)) d.field-0-0-is) c.in_ok-add_contradiction-in-Some-Function-default.ensures

pub returns-in_ok-add_contradiction-in-None : goal.returns-in_ok-add_contradiction-in-None
returns-in_ok-add_contradiction-in-None g c =
    no_record (datatype_in c.args.outer.now.context.now) c.args.name.now c.args.target c.args.held
    (ap (λ k. as_datatype (option_map (λ b. b.0) k)) (sym c.in-None.ensures)) c.in_ok-add_contradiction-in-None.ensures
