use Rattle.std.proofs.Common.{Err, refl, rules}
use Rattle.nesl_values.specs.Parts.{as_int}
use Rattle.nesl_values.specs.View.{item_trees}
use Rattle.nesl_seqs_base.specs.Arguments.{two_sequences}
use Rattle.nesl_seqs_base.specs.Permute.{permuted}
use Rattle.nesl_seqs_base.specs.Lent.{argument_tree}
use Rattle.nesl_seqs_base.specs.Meaning.{outcome_of}
use Rattle.nesl_seqs_base.specs.Outcome.{if_there}
use Rattle.nesl_seqs_base.specs.Prices.{reads}
use Rattle.nesl_seqs_base.specs.Reductions.{all_of}
use Rattle.nesl_seqs_base.specs.declared.seq_fn.SeqFn.TheVariants.{Permute}
use Rattle.nesl_seqs_index.specs.Plans.{Plans}
use Rattle.nesl_seqs_index.specs.declared.plan.Plan.{Plan}
use Rattle.nesl_seqs_index.proofs.Planned.{pair_planned, pair_refused, answered_given}
use Rattle.nesl_seqs_index.proofs.permute.plan_permute.Goals as goal

pub returns-in_err-check_indices : goal.returns-in_err-check_indices
returns-in_err-check_indices g c =
    let t = argument_tree c.args.argument in
    let e = c.in_err-check_indices.field-0.0 in
    let refused : Plans {A = g.row.A.Denot} (outcome_of Permute t) (reads Permute t) (Err e) = pair_refused g.row.A.Denot _ (two_sequences t) (λ ts us. if_there (all_of as_int us) (permuted ts)) (item_trees c.in-Some.items) (item_trees c.in-Some.indices) _ e c.in-Some.ensures.parts c.in_err-check_indices.ensures in
    search rules

pub returns : goal.returns
returns g c =
    let ts = item_trees c.in-Some.items in
    let us = item_trees c.in-Some.indices in
    pair_planned _ (two_sequences (argument_tree c.args.argument)) (λ ts us. if_there (all_of as_int us) (permuted ts)) ts us c.in_ok-check_indices.field-0 (Plan.Permuted c.in-Some.items c.in-Some.indices) c.in-Some.ensures.parts c.in_ok-check_indices.ensures (λ t h. h) refl (c.in-Some.ensures.len, answered_given _ (if_there (all_of as_int us) (permuted ts)) _ c.in_ok-check_indices.ensures)
