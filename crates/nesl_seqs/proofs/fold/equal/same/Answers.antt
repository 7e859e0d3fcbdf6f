use Rattle.nesl_values.specs.View.{tree_of}
use Rattle.nesl_seqs_base.proofs.Equality.{told_equal_if_ok}
use Rattle.nesl_seqs.proofs.fold.equal.same.Goals as goal

pub returns : goal.returns
returns g c = told_equal_if_ok (tree_of c.args.one.now) (tree_of c.args.other.now) c.same_by_list.result c.same_by_list.ensures
