use Rattle.std.proofs.Common.{◌≡◌, ◌∙◌, [], IsSome, length, unwrap_or, ap, sym, refl, arith}
use Rattle.nesl_scalars.specs.declared.trap.Trap.TheVariants.{Length}
use Rattle.nesl_values.specs.Parts.{as_bool}
use Rattle.nesl_values.specs.View.{item_trees}
use Rattle.nesl_seqs_base.specs.Lent.{argument_tree}
use Rattle.nesl_seqs_base.specs.Reductions.{all_of}
use Rattle.nesl_seqs_base.specs.Sides.{split_apart}
use Rattle.nesl_seqs_base.proofs.Shapes.{length_all}
use Rattle.nesl_seqs_build.specs.Plans.{flags_in}
use Rattle.nesl_seqs_build.specs.declared.plan.Plan.{Plan}
use Rattle.nesl_seqs_build.proofs.Planned.{second_planned, second_refused, length_in}
use Rattle.nesl_seqs_build.proofs.Splitting.{split_given, split_refused}
use Rattle.nesl_seqs_build.proofs.sides.plan_split.Goals as goal

pub returns-then-len : goal.returns-then-len
returns-then-len g c =
    let ts = item_trees c.in-Some.items in
    let us = item_trees c.in-Some.flags in
    second_refused g.row.A.Denot as_bool split_apart (argument_tree c.args.argument) ts us _ Length (sym c.in-Some.ensures.parts) (λ bs h. split_refused ts bs (λ e. c.if-len.true (omega (arith, e, length_all as_bool us bs h, c.len.ensures, c.len-2.ensures))))

pub returns : goal.returns
returns g c =
    let ts = item_trees c.in-Some.items in
    let us = item_trees c.in-Some.flags in
    let some : IsSome (all_of as_bool us) = sym c.are_truths.ensures ∙ c.if-not-are_truths.false in
    let len : length ts ≡ length us = omega (arith, c.if-len.false, c.len.ensures, c.len-2.ensures) in
    second_planned as_bool split_apart (argument_tree c.args.argument) ts us (Plan.Split c.in-Some.items c.in-Some.flags) (sym c.in-Some.ensures.parts) some (λ bs h.
    ap (split_apart ts) (ap (λ o. unwrap_or o []) (sym h)) ∙ split_given ts (flags_in us) (omega (arith, len, length_in as_bool us some))) refl (some, len)
