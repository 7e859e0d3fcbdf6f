use Rattle.std.proofs.Common.{rules, ◌≡◌, List, Some, set, ◌++◌, ◌∷◌, [], subst, sym, ap, ◌∙◌, arith}
use Rattle.nesl_types_shared.specs.declared.shape.Shape.{Shape}
use Rattle.nesl_types_shared.specs.Lists.{IsStep, IsMoved, IsFirstLeft}
use Rattle.nesl_types_shared.proofs.Moved.{IsMoving, inside, unmoved, moving_push, moving_part, moving_first, all_moved, less_moved}
use Rattle.nesl_types_shared.proofs.lists.push_listed.Goals as goal

pub loop-next-init : goal.loop-next-init
loop-next-init c = moving_first c.args.from.now c.args.place c.args.shapes.now.items c.args.places.now c.push.new.self.items c.requires.place c.requires.shapes c.requires.places (search rules)

pub returns : goal.returns
returns c =
    let none : c.loop-next.stack.items ≡ [] = search rules in
    all_moved c.args.from.now c.args.place c.loop-next.shapes.items c.loop-next.places c.loop-next.stack.items none c.loop-next.invariant

pub loop-next-smaller-in-Continue-branch-2 : goal.loop-next-smaller-in-Continue-branch-2
loop-next-smaller-in-Continue-branch-2 c =
    let from = c.args.from.now in
    let places = c.loop-next.places in
    let i = c.loop-next.invariant in
    let p = c.in-Some.next in
    let w = inside from c.args.place c.loop-next.shapes.items places c.pop.new.self.items c.loop-next.stack.items p c.shape.result i c.in-Some.ensures.items c.shape.ensures.parts c.shape.ensures.shape in
    let u = unmoved from c.args.place c.loop-next.shapes.items places c.pop.new.self.items c.loop-next.stack.items p c.shape.result i c.in-Some.ensures.items c.shape.ensures.parts c.shape.ensures.shape in
    less_moved places c.pop.new.self.items c.loop-next.stack.items p c.len.result c.in-Some.ensures.items (omega (arith, i.len, w)) u
    (λ k l. let b = i.below k l in omega (arith, i.len))

pub loop-next-preserved-in-Continue-branch-2 : goal.loop-next-preserved-in-Continue-branch-2
loop-next-preserved-in-Continue-branch-2 c =
    let from = c.args.from.now in
    let shapes = c.loop-next.shapes.items in
    let places = c.loop-next.places in
    let p = c.in-Some.next in
    let x = c.shape.result in
    let s = c.in-Push.shape in
    let ps = c.pop.new.self.items in
    let moved : IsMoved places x s = subst (IsStep places x) c.in-Push.is c.next_step.ensures in
    let now = moving_push from c.args.place shapes places ps c.loop-next.stack.items p x c.loop-next.invariant c.in-Some.ensures.items c.shape.ensures.parts c.shape.ensures.shape s moved c.requires.distinct in
    subst (λ (ss : List Shape). IsMoving from c.args.place ss (set places p (Some c.len.result)) ps) (sym c.in_ok-push-in-Push.ensures.items)
    (subst (λ n. IsMoving from c.args.place (shapes ++ s ∷ []) (set places p (Some n)) ps) (sym (c.len.ensures ∙ c.loop-next.shapes.ok.0)) now)

pub loop-next-preserved : goal.loop-next-preserved
loop-next-preserved c =
    let from = c.args.from.now in
    let shapes = c.loop-next.shapes.items in
    let places = c.loop-next.places in
    let qs = c.loop-next.stack.items in
    let x = c.shape.result in
    let q = c.in-Part.part in
    let left : IsFirstLeft places x q = subst (IsStep places x) c.in-Part.is c.next_step.ensures in
    let now = moving_part from c.args.place shapes places c.pop.new.self.items qs c.in-Some.next x c.loop-next.invariant c.in-Some.ensures.items c.shape.ensures.parts c.shape.ensures.shape q left in
    subst (IsMoving from c.args.place shapes places) (sym (c.in_ok-push-in-Part-2.ensures.items ∙ ap (λ s. s ++ q ∷ []) (c.in_ok-push-in-Part.ensures.items ∙ sym c.in-Some.ensures.items))) now
