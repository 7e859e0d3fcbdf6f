use Rattle.std.proofs.Common.{◌∷◌, [], length, replicate, take, IsTrue, refl, ap, ◌∙◌, rules}
use Rattle.std.specs.Prelude.{None}
use Rattle.std.proofs.lemmas.List.{take-replicate}
use Rattle.nesl_types_shared.proofs.Moved.{moving_first, all_moved}
use Rattle.nesl_types_shared.proofs.lists.list_of_few.Goals as goal

pub returns-then-branch : goal.returns-then-branch
returns-then-branch c =
    let from = c.args.from.now in
    let p = c.args.place in
    let yes : IsTrue c.in_ok-list_within.field-0 = search rules in
    let none = ap (λ n. take n (replicate 32 None)) c.len-count.ensures.len ∙ take-replicate (length from) 32 None c.requires.few in
    all_moved from p c.list_within.new.shapes.items _ [] refl
    (c.in_ok-list_within.ensures.listed yes p [] (moving_first from p c.in_ok-shapes.shapes.items _ (p ∷ []) c.requires.place c.in_ok-shapes.ensures.items none refl))
