use Rattle.std.proofs.Common.{◌≡◌, Some, cond, rules}
use Rattle.std.specs.Prelude.{slice_get}
use Rattle.nesl_eval_columns.proofs.Turns.{some_so}
use Rattle.nesl_eval_columns.proofs.Gathering.{three_so}
use Rattle.nesl_eval_columns.proofs.gather.items_of_sides.Goals as goal

pub returns : goal.returns
returns g c = rw (← c.deref.ensures.value, ← c.deref-2.ensures.value) (some_so _ _ (λ v h. three_so _ (λ b i x. cond b (slice_get c.args.yes.now i) (slice_get c.args.no.now i) ≡ Some x) (λ b i x e. search rules) c.deref.result.now c.deref-2.result.now v.items h) c.each_of_two.result c.each_of_two.ensures)
