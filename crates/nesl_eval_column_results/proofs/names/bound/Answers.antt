use Rattle.std.proofs.Common.{◌≡◌, Some, length, refl, sym}
use Rattle.std.specs.Prelude.{slice_get}
use Rattle.std.proofs.lemmas.Option.{slice_get_read}
use borrow.Author.Tests.{ltb-true}
use Rattle.nesl_eval_columns.proofs.Turns.{some_so}
use Rattle.nesl_eval_column_results.proofs.names.bound.Goals as goal

pub returns : goal.returns
returns g c =
    let cs = c.args.bindings.now in
    let d = c.in_ok-binding.binding.now in
    let a = c.in_ok-binding.ensures.lookup in
    let its : slice_get cs c.args.index ≡ Some d = slice_get_read cs (length cs) c.args.index d refl (ltb-true _ _ (sym a.0)) a.1 in
    some_so _ _ (λ v h. rw its h) c.standing.result c.standing.ensures
