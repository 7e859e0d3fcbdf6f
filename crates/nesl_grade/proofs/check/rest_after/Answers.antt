use Rattle.std.specs.Cmp.Lexicographic.{other_text}
use Rattle.nesl_grade.proofs.Fronts.{other_head}
use Rattle.nesl_grade.proofs.check.rest_after.Goals as goal

pub returns-else-eq : goal.returns-else-eq
returns-else-eq c =
    other_head c.args.text.now c.args.front.now c.split_at.result.0.now c.split_at.ensures.front
    (other_text c.split_at.result.0.now c.args.front.now c.if-eq.ensures)
