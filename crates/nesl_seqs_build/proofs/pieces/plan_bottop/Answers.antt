use Rattle.std.proofs.Common.{ap, sym, refl, length}
use Rattle.nesl_values.specs.Tree.{sequence}
use Rattle.nesl_values.specs.Parts.{as_sequence}
use Rattle.nesl_values.specs.View.{item_trees}
use Rattle.nesl_seqs_base.specs.Lent.{argument_tree}
use Rattle.nesl_seqs_base.specs.Outcome.{gives}
use Rattle.nesl_seqs_base.specs.Pieces.{halves}
use Rattle.nesl_seqs_build.proofs.Moved.{halved, halved_len}
use Rattle.nesl_seqs_build.specs.declared.plan.Plan.{Plan}
use Rattle.nesl_seqs_build.proofs.Planned.{plan_given}
use Rattle.nesl_seqs_build.proofs.pieces.plan_bottop.Goals as goal

pub returns : goal.returns
returns g c =
    let ts = item_trees c.in-Some.items in
    let a = item_trees c.part.result in
    let b = item_trees c.part-2.result in
    let n = c.len-len.result in
    let h = c.half_of-half.result in
    plan_given (as_sequence (argument_tree c.args.argument)) ts halves length (Plan.Two c.part.result c.part-2.result) c.in-Some.ensures.items (ap (λ ts. gives (sequence ts)) (sym (halved ts n h a b (sequence a) (sequence b) c.len-len.ensures c.half_of-half.ensures.half c.part.ensures c.part-2.ensures refl refl))) (halved_len ts n h a b c.len-len.ensures c.part.ensures c.part-2.ensures) tt
