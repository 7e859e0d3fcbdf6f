use Rattle.std.proofs.Common.{Vec, Global, List, ℕ, ◌≡◌, map, subst, ap, ◌∙◌}
use Rattle.std.proofs.lemmas.List.{take_all}
use Rattle.nesl_grade.specs.Graded.{HasSaid}
use Rattle.nesl_grade.proofs.Runs.{none_said, next_said}
use Rattle.nesl_grade.proofs.reply.say_all.Goals as goal

pub loop-line-init : goal.loop-line-init
loop-line-init c = none_said c.args.limits c.in_ok-session.session c.in_ok-session.ensures.empty c.in_ok-session.ensures.replayed

pub loop-line-preserved : goal.loop-line-preserved
loop-line-preserved c =
    let text : Vec ℕ Global → List ℕ = λ v. v.items in
    next_said c.goes_on.ensures c.args.limits text c.args.lines.now c.loop-line.line-index c.line-item.result c.loop-line.session
    c.say.new.session c.as_slice.result.now _ c.loop-line-test.true (c.as_slice.ensures.value ∙ ap text c.line-item.is)
    c.loop-line.invariant c.in_ok-say.ensures

pub returns : goal.returns
returns c =
    subst (λ (lines : List (Vec ℕ Global)). HasSaid c.args.limits (map (λ line. line.items) lines) c.loop-line.session)
    (take_all c.loop-line.line-index c.args.lines.now c.loop-line-test.false) c.loop-line.invariant
