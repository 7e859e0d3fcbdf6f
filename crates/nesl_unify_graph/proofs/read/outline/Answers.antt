use Rattle.std.proofs.Common.{◌≡◌, ◌<◌, ◌≤◌, List, [], ◌∷◌, ◌++◌, length, ap, subst, ◌∙◌, arith}
use Rattle.std.proofs.lemmas.List.{get_or_read}
use Rattle.nesl_types_shared.specs.declared.shape.Shape.{Shape}
use Rattle.nesl_unify_graph.specs.declared.form.Item.{Item}
use Rattle.nesl_unify_graph.specs.declared.form.Item.TheVariants.{At}
use Rattle.nesl_unify_graph.specs.Forms.{IsForm}
use Rattle.nesl_unify_graph.proofs.Outlines.{item_at, outline_first, outline_on, outline_fails, outline_last}
use Rattle.nesl_unify_graph.proofs.read.outline.Goals as goal

pub loop-next-init : goal.loop-next-init
loop-next-init c =
    outline_first c.args.instances.now c.args.nodes.now c.args.place c.push.new.self.items c.in_ok-shapes.shapes.items c.requires.place
    (c.in_ok-push.ensures.items ∙ ap (λ (ys : List Item). ys ++ At c.args.place ∷ []) c.in_ok-items.ensures.items) c.in_ok-shapes.ensures.items

pub returns-then-next-eq-MOST-clause-none : goal.returns-then-next-eq-MOST-clause-none
returns-then-next-eq-MOST-clause-none c =
    let l : c.loop-next.next < length c.loop-next.items.items = omega (arith, c.loop-next.items.ok.0) in
    outline_fails c.args.instances.now c.args.nodes.now c.args.place c.loop-next.items.items c.loop-next.shapes.items c.loop-next.next l c.if-next-eq-MOST.true c.loop-next.invariant

pub loop-next-preserved : goal.loop-next-preserved
loop-next-preserved c =
    let i = c.args.instances.now in
    let ns = c.args.nodes.now in
    let xs = c.loop-next.items.items in
    let shapes = c.loop-next.shapes.items in
    let next = c.loop-next.next in
    let f = c.form_of-form.result in
    let l : next < length xs = omega (arith, c.loop-next.items.ok.0) in
    let x : c.index-item.result.now ≡ item_at xs next = get_or_read xs next c.index-item.result.now l c.index-item.ensures (At 0) in
    outline_on i ns c.args.place xs c.push_parts.new.items.items shapes c.push-in-loop-next.new.self.items next f l c.if-next-eq-MOST.false
    (subst (λ (y : Item). IsForm i ns y f) x c.form_of-form.ensures.form) c.form_of-form.ensures.within c.in_ok-shape.ensures.items
    (c.in_ok-push-2.ensures.items ∙ ap (λ (s : Shape). shapes ++ s ∷ []) c.in_ok-shape.ensures.shape) c.loop-next.invariant

pub returns-clause-some : goal.returns-clause-some
returns-clause-some c =
    let l : length c.loop-next.items.items ≤ c.loop-next.next = omega (arith, c.loop-next.items.ok.0) in
    outline_last c.args.instances.now c.args.nodes.now c.args.place c.loop-next.items.items c.loop-next.shapes.items c.loop-next.next l c.loop-next.invariant
