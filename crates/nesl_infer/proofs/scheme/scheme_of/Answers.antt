use Rattle.std.proofs.Common.{List, length, refl, sym, ap, ◌∙◌}
use Rattle.nesl_types.specs.declared.classes.Class.{Class}
use Rattle.nesl_types.specs.Class.{class_at}
use Rattle.nesl_types_shared.specs.Numbering.{numbers_below}
use Rattle.nesl_infer.proofs.Closed.{none_occur, own_scheme}
use Rattle.nesl_infer.proofs.scheme.scheme_of.Goals as goal

pub invariant_of-result : goal.invariant_of-result
invariant_of-result c =
    let takes = c.is_below.ensures.0 c.if-is_below.true in
    let gives = c.is_below-then-is_below.ensures.0 c.if-is_below-2.true in
    record { numbered = none_occur c.args.takes c.args.gives takes gives ∙ sym (ap (λ (xs : List Class). numbers_below (length xs)) c.new.ensures.items) }

pub returns-then-is_below-2 : goal.returns-then-is_below-2
returns-then-is_below-2 c =
    let takes = c.is_below.ensures.0 c.if-is_below.true in
    let gives = c.is_below-then-is_below.ensures.0 c.if-is_below-2.true in
    own_scheme c.args.takes c.args.gives (class_at c.args.classes.now) _ takes gives refl refl c.new.ensures.items
