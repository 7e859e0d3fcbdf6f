use Rattle.std.proofs.Common.{◌≡◌, Some, refl, ap, rules, w64, to_z, of_z}
use Rattle.std.proofs.lemmas.Int.{to_z-of_z}
use Rattle.nesl_values.specs.Tree.{int, boolean, character}
use Rattle.nesl_eval_columns.proofs.Turns.{some_so}
use Rattle.nesl_eval_column_results.specs.Frames.{frames_in}
use Rattle.nesl_eval_column_results.proofs.Finding.{all_are}
use Rattle.nesl_eval_plain.proofs.parts.end.Goals as goal

pub returns-in-Number : goal.returns-in-Number
returns-in-Number g c = λ f.
    let e : to_z w64 (of_z w64 c.in-Number.value) ≡ c.in-Number.value = to_z-of_z w64 c.in-Number.value (search rules) in
    rw c.in-Number.is (all_are _ (frames_in c.args.block.now c.args.scopes.now) (int c.in-Number.value) _ (λ k. ap (λ z. Some (int z)) e) (λ k fs q. refl))

pub returns-in-Truth : goal.returns-in-Truth
returns-in-Truth g c = λ f.
    rw c.in-Truth.is (all_are _ (frames_in c.args.block.now c.args.scopes.now) (boolean c.in-Truth.value) _ (λ k. refl) (λ k fs q. refl))

pub returns-in-Character : goal.returns-in-Character
returns-in-Character g c = λ f.
    rw c.in-Character.is (all_are _ (frames_in c.args.block.now c.args.scopes.now) (character c.in-Character.value) _ (λ k. refl) (λ k fs q. refl))

pub returns-in-Local : goal.returns-in-Local
returns-in-Local g c = rw (c.in-Local.is, ← c.deref.ensures.value) (some_so _ _ (λ v h. λ f. h) c.local.result c.local.ensures)

pub returns-in-Top : goal.returns-in-Top
returns-in-Top g c = rw c.in-Top.is (some_so _ _ (λ v h. λ f. h) c.top.result c.top.ensures)
