use Rattle.std.proofs.Common.{List, sym, subst}
use Rattle.nesl_unify.specs.declared.equation.Ends.{Ends}
use Rattle.nesl_unify.specs.Equations.{AreTakenApart}
use Rattle.nesl_unify.proofs.Equations.{apart_more}
use Rattle.nesl_unify.proofs.equation.take_all_apart.Goals as goal

pub loop-ends-preserved : goal.loop-ends-preserved
loop-ends-preserved c =
    let x = c.args.sides.now in
    let mid = c.loop-ends.facts.items in
    let new = c.take_apart.new.facts.items in
    let after = c.take_apart.new.pending.items in
    apart_more x c.args.facts.now.items mid new c.args.pending.items c.loop-ends.pending.items after c.loop-ends.invariant
    (subst (λ (l : List Ends). AreTakenApart x mid new l after) (sym c.in-Some.ensures.items) c.in_ok-take_apart.ensures.taken.apart)
