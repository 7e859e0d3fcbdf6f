use Rattle.std.proofs.Common.{◌≡◌, ◌+◌, ◌*◌, ◌-◌, arith}
use Rattle.nesl_values.specs.Tree.{size, sizes, trees_of}
use Rattle.nesl_values.specs.View.{tree_of, item_trees}
use Rattle.nesl_values.proofs.Trees.{size_positive}
use Rattle.nesl_values.proofs.Questions.{two_asked}
use Rattle.nesl_values.proofs.listed.ask_from.Goals as goal

pub returns : goal.returns
returns g c =
    let us = item_trees c.args.one in
    let vs = item_trees c.args.other in
    let s = tree_of c.args.x.now in
    let t = tree_of c.args.y.now in
    two_asked (us ≡ vs) (s ≡ t) ((s ≡ t) × (us ≡ vs)) (3 * sizes (trees_of us) + 1) (3 * size s - 1) (3 * (size s + sizes (trees_of us)) + 1) c.args.questions.now.items c.ask_rest.new.questions.items c.ask.new.questions.items c.in_ok-ask_rest.ensures c.in_ok-ask.ensures (λ h. h, λ h. h) (omega (arith, size_positive s))
