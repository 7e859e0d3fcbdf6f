use Rattle.std.proofs.Common.{◌≡◌, ◌≤◌, ◌++◌, ◌∷◌, [], ◌∙◌, List, length, ap, sym, subst, arith}
use Rattle.nesl_infer_rules.specs.declared.locals.Entry.{Entry}
use Rattle.nesl_infer_rules.specs.Newest.{mapped, AreHidden, AreNoted}
use Rattle.nesl_infer_rules.proofs.Newest.{hidden-push, noted-push}
use Rattle.nesl_infer_rules.proofs.locals.Locals.push.Goals as goal

pub invariant_of-self-2 : goal.invariant_of-self-2
invariant_of-self-2 c =
    let es = c.self.inside.list.items in
    let old = c.self.inside.newest.entries in
    let new = c.set.new.newest.entries in
    let e : Entry = record { local = c.args.local; hidden = c.in_ok-hidden.hidden } in
    let more : c.push_reserved.new.self.items ≡ es ++ e ∷ [] = c.push_reserved.ensures.items ∙ ap (λ (fs : List Entry). fs ++ e ∷ []) c.reserve.ensures.items in
    let many : 8 ≤ length es = omega (arith, c.if-len-lt-FEW.false, c.len.ensures, c.self.inside.list.ok.0) in
    subst (λ (fs : List Entry). AreNoted (λ k. k.now) new (mapped fs) × AreHidden (mapped fs)) (sym more) (
      noted-push (λ k. k.now) old new es e many c.in_ok-hidden.ensures.set c.self.invariant.0,
      hidden-push (λ k. k.now) old es e many c.in_ok-hidden.ensures.was c.self.invariant.0 c.self.invariant.1,
    )
