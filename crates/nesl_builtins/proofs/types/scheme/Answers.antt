use Rattle.std.proofs.Common.{◌++◌, length, sym, ap, ◌∙◌}
use Rattle.nesl_types_shared.specs.Numbering.{variables, first_occurrences, numbers_below}
use Rattle.nesl_builtins.specs.FunctionTypes.{builtin_type}
use Rattle.nesl_builtins.proofs.Numbered.{numbered}
use Rattle.nesl_builtins.proofs.types.scheme.Goals as goal

pub invariant_of-result : goal.invariant_of-result
invariant_of-result c =
    let t = c.in_ok-argument.ensures ∙ c.takes.ensures in
    let u = c.in_ok-given.ensures ∙ c.gives.ensures in
    let k = ap length (c.in_ok-classes.ensures.items ∙ c.classes.ensures) in
    let occurring = ap (λ x. first_occurrences (variables x ++ variables c.in_ok-given.given)) t ∙ ap (λ x. first_occurrences (variables (builtin_type c.args.builtin).argument ++ variables x)) u in
    record { numbered = occurring ∙ numbered c.args.builtin ∙ ap numbers_below (sym k) }
