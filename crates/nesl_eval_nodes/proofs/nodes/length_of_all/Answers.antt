use Rattle.std.proofs.Common.{map, ap}
use Rattle.std.proofs.Common.{Some, None, true, false}
use Rattle.nesl_values.specs.View.{tree_of}
use Rattle.nesl_eval_nodes.proofs.Lengths.{length_told}
use Rattle.nesl_eval_nodes.proofs.nodes.length_of_all.Goals as goal

pub returns-in-Some-true : goal.returns-in-Some-true
returns-in-Some-true g c =
    λ m. length_told m c.args.span c.in-Some-sequence_len.len (tree_of c.in-Some.first.now) (map tree_of c.in-Some.others.now) (map tree_of c.args.values.now) (Some true) (ap (map tree_of) c.in-Some.ensures.cases.0) c.in-Some-sequence_len.ensures (rw (c.in-Some-true.is, c.in-Some-true.field-0-test) at c.have_length.ensures)

pub returns-in-Some-false : goal.returns-in-Some-false
returns-in-Some-false g c =
    λ m. length_told m c.args.span c.in-Some-sequence_len.len (tree_of c.in-Some.first.now) (map tree_of c.in-Some.others.now) (map tree_of c.args.values.now) (Some false) (ap (map tree_of) c.in-Some.ensures.cases.0) c.in-Some-sequence_len.ensures (rw (c.in-Some-false.is, c.in-Some-false.field-0-test) at c.have_length.ensures)

pub returns-in-None : goal.returns-in-None
returns-in-None g c =
    λ m. length_told m c.args.span c.in-Some-sequence_len.len (tree_of c.in-Some.first.now) (map tree_of c.in-Some.others.now) (map tree_of c.args.values.now) None (ap (map tree_of) c.in-Some.ensures.cases.0) c.in-Some-sequence_len.ensures (rw c.in-None.is at c.have_length.ensures)
