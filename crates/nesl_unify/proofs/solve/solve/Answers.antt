use Rattle.std.proofs.Common.{rules}
use Rattle.nesl_unify.proofs.Systems.{solves_equations, general_equations, lent_same}
use Rattle.nesl_unify.proofs.solve.solve.Goals as goal

pub returns-clause-solves : goal.returns-clause-solves
returns-clause-solves c =
    let i = c.in_ok-instances.field-0.instances in
    let same = lent_same i c.in_ok-instances.field-0.facts.items c.as_slice.result.now c.args.equations.now (search rules) c.in_ok-instances.ensures.same in
    solves_equations i c.as_slice.result.now c.args.members.now c.args.equations.now same c.solve_facts.result c.solve_facts.ensures.holds c.solve_facts.ensures.within

pub returns-clause-general : goal.returns-clause-general
returns-clause-general c =
    let i = c.in_ok-instances.field-0.instances in
    let same = lent_same i c.in_ok-instances.field-0.facts.items c.as_slice.result.now c.args.equations.now (search rules) c.in_ok-instances.ensures.same in
    general_equations i c.as_slice.result.now c.args.members.now c.args.equations.now same c.solve_facts.result c.solve_facts.ensures.general

pub returns-clause-none : goal.returns-clause-none
returns-clause-none c = λ e s of b h.
    let i = c.in_ok-instances.field-0.instances in
    let same = lent_same i c.in_ok-instances.field-0.facts.items c.as_slice.result.now c.args.equations.now (search rules) c.in_ok-instances.ensures.same in
    c.solve_facts.ensures.none e s of b ((same s).1 h.equal) h.within
