use Rattle.std.proofs.Common.{Some, sym, ap, ◌∙◌}
use Rattle.nesl_types.specs.declared.bindings.Top.{Top}
use Rattle.nesl_infer_names.specs.Names.{as_variable}
use Rattle.nesl_infer_rules.proofs.Applied.{variable_means}
use Rattle.nesl_infer.proofs.uses.is_large_variable.Goals as goal

pub returns-in-Some-Variable-default : goal.returns-in-Some-Variable-default
returns-in-Some-Variable-default g c = λ h s.
    let d = c.in-Some-Variable-default in (
      d.ty,
      c.is_large.ensures h,
      variable_means c.args.outer.now.context.now c.args.outer.now.own c.args.name.now s (Some (d.field-0-0.now, d.field-0-1.now)) (sym (c.is_hidden.ensures s) ∙ c.if-is_hidden.false) d.ensures
          ∙ ap (λ (t : Top). as_variable (Some t)) d.field-0-0-is,
    )
