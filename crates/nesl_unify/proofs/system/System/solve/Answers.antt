use Rattle.std.proofs.Common.{rules}
use Rattle.nesl_unify.proofs.Systems.{solves_system}
use Rattle.nesl_unify.proofs.system.System.solve.Goals as goal

pub returns-clause-solves : goal.returns-clause-solves
returns-clause-solves c =
    solves_system c.args.self c.replace-instances.result c.as_slice.result.now c.as_slice-2.result.now c.solve_facts.result (search rules) c.as_slice.ensures.value c.as_slice-2.ensures.value c.solve_facts.ensures.holds c.solve_facts.ensures.within
