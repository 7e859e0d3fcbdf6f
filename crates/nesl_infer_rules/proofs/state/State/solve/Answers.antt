use Rattle.nesl_infer_rules.proofs.state.State.solve.Goals as goal

pub returns-clause-none : goal.returns-clause-none
returns-clause-none c = λ e s of b h. c.solve.ensures.none e s of b h.solves
