use Rattle.std.proofs.Common.{◌≡◌, ℕ, length, subst, rules, arith}
use Rattle.std.specs.Prelude.{◌↔◌}
use Rattle.nesl_unify.specs.Facts.{AreTrue}
use Rattle.nesl_unify.specs.Equations.{AreBothBelow, IsEqual}
use Rattle.nesl_unify.proofs.Facts.{true_none}
use Rattle.nesl_unify.proofs.Equations.{SolvesFirst, solves_more, own_facts, equation_at}
use Rattle.nesl_unify.proofs.solve.pose.Goals as goal

pub loop-equation-init : goal.loop-equation-init
loop-equation-init c =
    let h = c.in_ok-instances.ensures in
    record {
      places = h;
      facts = own_facts c.args.count c.in_ok-instances.instances c.new-facts.result.items h c.new-facts.ensures.items;
      same = λ s. (λ t k d l. absurd (omega arith), λ t. true_none c.in_ok-instances.instances c.new-facts.result.items s c.new-facts.ensures.items);
    }

pub loop-equation-preserved : goal.loop-equation-preserved
loop-equation-preserved c =
    let n = c.args.count in
    let i = c.loop-equation.invariant in
    let q = c.in_ok-equate.ensures.equated in
    let e = c.equation-item.result in
    let below = equation_at (AreBothBelow n) c.args.equations.now c.loop-equation.equation-index e c.requires c.loop-equation-test.true c.equation-item.is in
    record {
      places = q.places n i.places;
      facts = q.facts n i.places below i.facts;
      same = λ s.
          let h = q.same n i.places below i.facts s in
          let k = i.same s in
          let m = solves_more s c.loop-equation.equation-index c.args.equations.now e c.loop-equation-test.true c.equation-item.is in
          (λ x. let y = h.0 x in m.0 (k.0 y.0, y.1), λ x. let y = m.1 x in h.1 (k.1 y.0, y.1));
    }

pub returns-in_err-equate-clause-none : goal.returns-in_err-equate-clause-none
returns-in_err-equate-clause-none c = λ e s h.
    c.in_err-equate.ensures.none (search rules) s (equation_at (IsEqual s) c.args.equations.now c.loop-equation.equation-index c.equation-item.result h c.loop-equation-test.true c.equation-item.is)

pub returns-clause-same : goal.returns-clause-same
returns-clause-same c = λ s.
    let n : c.loop-equation.equation-index ≡ length c.args.equations.now = omega arith in
    subst (λ (k : ℕ). AreTrue c.loop-equation.instances c.loop-equation.facts.items s ↔ SolvesFirst s k c.args.equations.now) n (c.loop-equation.invariant.same s)
