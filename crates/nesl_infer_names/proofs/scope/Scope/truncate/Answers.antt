use Rattle.std.proofs.Common.{◌≡◌, ◌+◌, ◌-◌, ◌∙◌, ℕ, ap, drop, arith}
use Rattle.nesl_infer_names.specs.Scopes.{locals}
use Rattle.nesl_infer_names.proofs.Scoping.{dropped_more}
use Rattle.nesl_infer_names.proofs.scope.Scope.truncate.Goals as goal

pub loop-place-preserved : goal.loop-place-preserved
loop-place-preserved c =
    let more : (c.loop-place._place - c.args.len) + 1 ≡ (c.loop-place._place + 1) - c.args.len = omega arith in
    c.pop.ensures ∙ ap (drop 1) c.loop-place.invariant ∙ dropped_more (c.loop-place._place - c.args.len) (locals c.args.self.now)
    ∙ ap (λ (n : ℕ). drop n (locals c.args.self.now)) more
