use Rattle.std.proofs.Common.{◌≡◌, ℕ, true, sym, ap, subst, ◌∙◌}
use Rattle.std.specs.Str.{bytes_eq}
use Rattle.nesl_types_shared.specs.Term.{Term}
use Rattle.nesl_infer_rules.specs.World.{TypedNames, meanings_in}
use Rattle.nesl_infer_rules.specs.Steps.{own_at, IsOwnBelow, count}
use Rattle.nesl_infer_rules.proofs.Applied.{applied_single, own_means}
use Rattle.nesl_infer_rules.proofs.apply.constrain_call.Goals as goal

pub returns-then-eq : goal.returns-then-eq
returns-then-eq g c =
    let context = c.args.outer.now.context.now in
    let own = c.args.outer.now.own in
    let N : (ℕ → Term) → TypedNames = λ s. meanings_in context (own_at s own) in
    let o = c.in-Some.own in
    let x = c.args.name.now in
    let below = subst (λ k. IsOwnBelow (count c.args.state.now) k) c.in-Some.is c.requires.own in
    let same : bytes_eq x o.name.items ≡ true = ap (bytes_eq x) (sym c.as_slice.ensures.value) ∙ sym c.if-eq.ensures in
    applied_single N x (λ s. s o.takes) (λ s. s o.gives) c.args.given c.args.target c.requires.target (λ s z a. a o.gives below.1) (λ s. own_means context own o x s c.in-Some.is same)
    c.in_ok-equate_flat.ensures c.in_ok-equate_flat-2.ensures
