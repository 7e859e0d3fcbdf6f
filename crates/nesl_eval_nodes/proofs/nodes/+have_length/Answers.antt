use Rattle.std.proofs.Common.{map, ap}
use Rattle.nesl_values.specs.View.{tree_of}
use Rattle.nesl_eval_nodes.proofs.Lengths.{tells_next}
use Rattle.nesl_eval_nodes.proofs.nodes.+have_length.Goals as goal

pub returns-then-branch-len : goal.returns-then-branch-len
returns-then-branch-len g d c =
    tells_next c.args.len c.in_ok-sequence_len.field-0 (tree_of c.in-Some.first.now) (map tree_of c.in-Some.others.now) (map tree_of c.args.values.now) c.have_length.result (ap (map tree_of) c.in-Some.ensures.cases.0) c.in_ok-sequence_len.ensures c.if-branch-len.true c.have_length.ensures
