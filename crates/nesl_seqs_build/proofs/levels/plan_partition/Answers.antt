use Rattle.std.proofs.Common.{◌≡◌, ◌∙◌, true, cond, [], map, length, unwrap_or, ap, sym, refl, IsSome}
use Rattle.nesl_scalars.specs.declared.trap.Trap.TheVariants.{Count}
use Rattle.nesl_values.specs.Tree.{sequence}
use Rattle.nesl_values.specs.Parts.{as_int}
use Rattle.nesl_values.specs.View.{item_trees}
use Rattle.nesl_seqs_base.specs.Lent.{argument_tree}
use Rattle.nesl_seqs_base.specs.Levels.{partitioned, are_lengths, pieces}
use Rattle.nesl_seqs_base.specs.Outcome.{gives, traps}
use Rattle.nesl_seqs_base.specs.Reductions.{all_of}
use Rattle.nesl_seqs_build.specs.Plans.{counts_in}
use Rattle.nesl_seqs_build.proofs.Cutting.{checked, checked_read}
use Rattle.nesl_seqs_build.specs.declared.plan.Plan.{Plan}
use Rattle.nesl_seqs_build.proofs.Planned.{second_planned, read_in}
use Rattle.nesl_seqs_build.proofs.levels.plan_partition.Goals as goal

pub returns : goal.returns
returns g c =
    let ts = item_trees c.in-Some.items in
    let us = item_trees c.in-Some.counts in
    let zs = counts_in us in
    let some : IsSome (all_of as_int us) = checked_read (all_of as_int us) c.len.result c.in_ok-check_counts.field-0 c.in_ok-check_counts.ensures in
    let lengths : are_lengths (length ts) zs ≡ true = ap (λ k. are_lengths k zs) (sym c.len.ensures) ∙ checked (all_of as_int us) c.len.result zs c.in_ok-check_counts.field-0 c.in_ok-check_counts.ensures (read_in (all_of as_int us) some) in
    second_planned as_int partitioned (argument_tree c.args.argument) ts us (Plan.Pieces c.in-Some.items c.in-Some.counts) (sym c.in-Some.ensures.parts) some (λ ys h. ap (partitioned ts) (ap (λ o. unwrap_or o []) (sym h)) ∙ ap (λ b. cond b (gives (sequence (map sequence (pieces ts zs)))) (traps Count)) lengths) refl (some, lengths)
