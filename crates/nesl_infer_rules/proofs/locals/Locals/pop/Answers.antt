use Rattle.std.proofs.Common.{◌≤◌, List, length, subst, arith}
use Rattle.nesl_infer_rules.specs.declared.locals.Entry.{Entry}
use Rattle.nesl_infer_rules.specs.Newest.{mapped, AreHidden, AreNoted}
use Rattle.nesl_infer_rules.proofs.Newest.{hidden-pop, never_absent, noted-pop}
use Rattle.nesl_infer_rules.proofs.locals.Locals.pop.Goals as goal

pub invariant_of-self : goal.invariant_of-self
invariant_of-self c =
    let es = c.pop.new.self.items in
    let old = c.self.inside.newest.entries in
    let new = c.set.new.newest.entries in
    let e = c.in-Some.entry in
    let i = subst (λ (fs : List Entry). AreNoted (λ k. k.now) old (mapped fs) × AreHidden (mapped fs)) c.in-Some.ensures.items c.self.invariant in
    let many : 8 ≤ length es = omega (arith, c.if-len-ge-FEW.true, c.len.ensures, c.pop.new.self.ok.0) in
    (noted-pop (λ k. k.now) old new es e many c.in-Ok.ensures.set i.0 i.1, hidden-pop es e many i.1)

pub unreachable-requires : goal.unreachable-requires
unreachable-requires c =
    let es = c.pop.new.self.items in
    let old = c.self.inside.newest.entries in
    let e = c.in-Some.entry in
    let i = subst (λ (fs : List Entry). AreNoted (λ k. k.now) old (mapped fs) × AreHidden (mapped fs)) c.in-Some.ensures.items c.self.invariant in
    let many : 8 ≤ length es = omega (arith, c.if-len-ge-FEW.true, c.len.ensures, c.pop.new.self.ok.0) in
    let a = c.in-Err.ensures.absent in
    never_absent (λ k. k.now) old es e many i.0 a.0 a.1 a.2
