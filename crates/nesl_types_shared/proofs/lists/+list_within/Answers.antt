use Rattle.std.proofs.Common.{◌++◌, ◌∷◌, [], List, Some, set, IsTrue, refl, sym, subst, ◌∙◌, rules}
use Rattle.nesl_types_shared.specs.declared.shape.Shape.{Shape}
use Rattle.nesl_types_shared.specs.Lists.{IsStep, IsMoved, IsFirstLeft}
use Rattle.nesl_types_shared.specs.Moving.{IsMoving}
use Rattle.nesl_types_shared.proofs.Moved.{moving_push, moving_part}
use Rattle.nesl_types_shared.proofs.lists.+list_within.Goals as goal

pub returns-in-Push-clause-listed : goal.returns-in-Push-clause-listed
returns-in-Push-clause-listed t c = λ done root stack i.
    let from = c.args.from.now in
    let shapes = c.loop.shapes.items in
    let places = c.loop.places in
    let p = c.args.place in
    let x = c.shape-shape.result in
    let s = c.in-Push.shape in
    let moved : IsMoved places x s = subst (IsStep places x) c.in-Push.is c.next_step.ensures in
    let now = moving_push from root shapes places stack (stack ++ p ∷ []) p x (c.loop.invariant.kept root stack i) refl c.shape-shape.ensures.parts c.shape-shape.ensures.shape s moved c.requires.distinct in
    subst (λ (ss : List Shape). IsMoving from root ss (set places p (Some c.len.result)) stack) (sym c.in_ok-push-in-Push.ensures.items)
    (subst (λ n. IsMoving from root (shapes ++ s ∷ []) (set places p (Some n)) stack) (sym (c.len.ensures ∙ c.loop.shapes.ok.0)) now)

pub loop-preserved : goal.loop-preserved
loop-preserved t c =
    let from = c.args.from.now in
    let shapes = c.loop.shapes.items in
    let places = c.loop.places in
    let p = c.args.place in
    let x = c.shape-shape.result in
    let q = c.in-Part.part in
    let e = c.in_ok-list_within-in-Part.ensures in
    let yes : IsTrue c.in_ok-list_within-in-Part.field-0 = search rules in
    let left : IsFirstLeft places x q = subst (IsStep places x) c.in-Part.is c.next_step.ensures in
    record {
      len = e.places;
      kept = λ root stack i. e.listed yes root (stack ++ p ∷ [])
          (moving_part from root shapes places stack (stack ++ p ∷ []) p x (c.loop.invariant.kept root stack i) refl c.shape-shape.ensures.parts c.shape-shape.ensures.shape q left);
    }
