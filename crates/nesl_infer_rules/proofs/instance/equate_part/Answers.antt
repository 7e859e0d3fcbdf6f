use Rattle.std.proofs.Common.{map, sym, ap, subst, ◌∙◌}
use Rattle.nesl_types_shared.specs.Term.{Term}
use Rattle.nesl_types_shared.specs.Numbering.{IsBelow}
use Rattle.nesl_types_shared.specs.Substitution.{substitute}
use Rattle.nesl_unify.specs.Flat.{flat_type}
use Rattle.nesl_infer_rules.specs.Steps.{count}
use Rattle.nesl_infer_rules.specs.Instances.{type_in}
use Rattle.nesl_infer_rules.proofs.Steps.{adds_is}
use Rattle.nesl_infer_rules.proofs.Instances.{renamed-below, renamed_is}
use Rattle.nesl_infer_rules.proofs.instance.equate_part.Goals as goal

pub equate_flat-requires-clause-flat : goal.equate_flat-requires-clause-flat
equate_flat-requires-clause-flat c =
    let n = count c.args.state.now in
    subst (λ (t : Term). IsBelow n t) (sym c.in-Some.ensures) (renamed-below n c.args.fresh.now c.args.part.now c.requires.fresh c.requires.part)

pub returns-in_ok-equate_flat-in-Some : goal.returns-in_ok-equate_flat-in-Some
returns-in_ok-equate_flat-in-Some c =
    adds_is c.args.variable (λ s. substitute s (flat_type c.in-Some.flat)) (λ s. substitute (type_in (map s c.args.fresh.now)) c.args.part.now)
    (λ s. ap (substitute s) c.in-Some.ensures ∙ renamed_is s c.args.fresh.now c.args.part.now c.requires.part) c.in_ok-equate_flat-in-Some.ensures
