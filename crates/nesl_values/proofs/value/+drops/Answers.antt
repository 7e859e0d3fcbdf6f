use Rattle.std.proofs.Common.{rules, ◌≡◌, ◌+◌, ap, ◌∙◌, arith}
use Rattle.nesl_values.specs.View.{tree_of}
use Rattle.nesl_values.specs.Weight.{weight}
use Rattle.nesl_values.specs.Dropping.{heft}
use Rattle.nesl_values.proofs.Weights.{heft-append}
use Rattle.nesl_values.proofs.value.+drops.Goals as goal

pub last_let_go-taken_down-requires : goal.last_let_go-taken_down-requires
last_let_go-taken_down-requires g t c κs within =
    let parts : heft c.args.items.now.items ≡ heft c.pop.new.self.items + 1 + weight (tree_of c.in-Some.item) = ap heft c.in-Some.ensures.items ∙ heft-append c.pop.new.self.items c.in-Some.item in
    search rules

pub last_let_go-returns-in-Some-clause-some : goal.last_let_go-returns-in-Some-clause-some
last_let_go-returns-in-Some-clause-some g t c = λ yes.
    let parts : heft c.args.items.now.items ≡ heft c.pop.new.self.items + 1 + weight (tree_of c.in-Some.item) = ap heft c.in-Some.ensures.items ∙ heft-append c.pop.new.self.items c.in-Some.item in
    omega arith
