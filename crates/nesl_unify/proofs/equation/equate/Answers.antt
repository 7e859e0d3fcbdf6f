use Rattle.std.proofs.Common.{◌≡◌, ◌-◌, ◌++◌, ◌∷◌, List, [], length, ap, ◌∙◌, arith}
use Rattle.nesl_unify.specs.declared.equation.Ends.{Ends}
use Rattle.nesl_unify.specs.declared.equation.Sides.{Sides}
use Rattle.nesl_unify.proofs.Equations.{equated_ok, equated_never}
use Rattle.nesl_unify.proofs.equation.equate.Goals as goal

pub returns-clause-equated : goal.returns-clause-equated
returns-clause-equated c =
    let x : Sides = record { left = c.parts-left.result; right = c.parts-right.result; first = c.in_ok-first.first; second = c.in_ok-second.second } in
    let one : Ends = record { left = c.len.result - 1; right = c.len-2.result - 1 } in
    let a : one.left ≡ length x.left - 1 = omega (arith, c.len.ensures.len) in
    let b : one.right ≡ length x.right - 1 = omega (arith, c.len-2.ensures.len) in
    let d : c.push.new.self.items ≡ one ∷ [] = c.in_ok-push.ensures.items ∙ ap (λ (l : List Ends). l ++ one ∷ []) c.new-pending.ensures.items in
    equated_ok c.args.instances.now c.add_type.new.instances c.add_type-2.new.instances c.args.facts.now.items c.take_all_apart.new.facts.items c.args.equation.now x one c.push.new.self.items c.take_all_apart.result
    c.in_ok-first.ensures c.in_ok-second.ensures c.parts-left.ensures.some c.parts-left.ensures.last c.parts-left.ensures.order a c.parts-right.ensures.some c.parts-right.ensures.last c.parts-right.ensures.order b d c.take_all_apart.ensures.all

pub returns-clause-none : goal.returns-clause-none
returns-clause-none c = λ h.
    let x : Sides = record { left = c.parts-left.result; right = c.parts-right.result; first = c.in_ok-first.first; second = c.in_ok-second.second } in
    let one : Ends = record { left = c.len.result - 1; right = c.len-2.result - 1 } in
    let a : one.left ≡ length x.left - 1 = omega (arith, c.len.ensures.len) in
    let b : one.right ≡ length x.right - 1 = omega (arith, c.len-2.ensures.len) in
    let d : c.push.new.self.items ≡ one ∷ [] = c.in_ok-push.ensures.items ∙ ap (λ (l : List Ends). l ++ one ∷ []) c.new-pending.ensures.items in
    equated_never c.args.equation.now x one c.push.new.self.items c.parts-left.ensures.some c.parts-left.ensures.last a c.parts-right.ensures.some c.parts-right.ensures.last b d (c.take_all_apart.ensures.none h)
