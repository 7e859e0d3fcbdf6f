use Rattle.std.proofs.Common.{map, sym, ap, subst, ◌∙◌}
use Rattle.std.specs.Prelude.{slice_index}
use Rattle.nesl_types_shared.specs.Term.{Term, variable}
use Rattle.nesl_types_shared.specs.Numbering.{IsBelow}
use Rattle.nesl_types_shared.specs.Substitution.{substitute}
use Rattle.nesl_unify.specs.Flat.{flat_type}
use Rattle.nesl_infer_rules.specs.Steps.{count}
use Rattle.nesl_infer_rules.specs.Instances.{type_in}
use Rattle.nesl_infer_rules.proofs.Steps.{adds_is}
use Rattle.nesl_infer_rules.proofs.Instances.{renamed-below, renamed_is}
use Rattle.nesl_infer_rules.proofs.instance.equate_type.Goals as goal

pub equate_flat-requires-clause-flat : goal.equate_flat-requires-clause-flat
equate_flat-requires-clause-flat c =
    let n = count c.args.state.now in
    let vs = c.args.fresh.now in
    let e = c.in-Some.ensures ∙ ap (substitute (λ v. variable (slice_index vs v))) c.whole.ensures in
    subst (λ (t : Term). IsBelow n t) (sym e) (renamed-below n vs c.args.ty.now c.requires.fresh c.requires.ty)

pub returns-in_ok-equate_flat-in-Some : goal.returns-in_ok-equate_flat-in-Some
returns-in_ok-equate_flat-in-Some c =
    let vs = c.args.fresh.now in
    let e = c.in-Some.ensures ∙ ap (substitute (λ v. variable (slice_index vs v))) c.whole.ensures in
    adds_is c.args.variable (λ s. substitute s (flat_type c.in-Some.flat)) (λ s. substitute (type_in (map s vs)) c.args.ty.now)
    (λ s. ap (substitute s) e ∙ renamed_is s vs c.args.ty.now c.requires.ty) c.in_ok-equate_flat-in-Some.ensures
