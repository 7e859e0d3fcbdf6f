use Rattle.std.proofs.Common.{◌≡◌, take}
use Rattle.nesl_values.specs.View.{item_trees}
use Rattle.nesl_values.proofs.listed.answer_elements.Given as goal

abbrev pub invariant-loop-place : goal.invariant-loop-place
invariant-loop-place g l =
    (take l.place (item_trees l.one) ≡ take l.place (item_trees l.other)) × (l.questions.items ≡ l.fn.questions.items)
