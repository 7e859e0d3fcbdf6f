use Rattle.std.proofs.Common.{sym, ◌∙◌}
use Rattle.nesl_syntax_tree.proofs.PatternsRead.{given_some, given_high, given_none}
use Rattle.nesl_syntax_tree.proofs.parts.pattern.pattern_of.Goals as goal

pub returns-in-High-true : goal.returns-in-High-true
returns-in-High-true c = λ x s. let k = rw c.in-High-true.is at s in given_high x k.0 (sym c.in-High-true.field-0-test ∙ k.1)

pub returns-in-High-false : goal.returns-in-High-false
returns-in-High-false c = λ x s. let k = rw c.in-High-false.is at s in given_none x (sym c.in-High-false.field-0-test ∙ k.1)

pub returns-then-pattern : goal.returns-then-pattern
returns-then-pattern c = λ x s. let k = rw c.in-Built.is at s in given_some c.in-Built.exp c.in-Built.height x k.0 k.1 k.2 (sym c.if-pattern.true ∙ k.3)

pub returns-else-pattern : goal.returns-else-pattern
returns-else-pattern c = λ x s. let k = rw c.in-Built.is at s in rw c.none.ensures (given_none x (sym c.if-pattern.false ∙ k.3))
