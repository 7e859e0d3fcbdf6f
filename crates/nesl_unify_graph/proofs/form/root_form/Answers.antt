use Rattle.std.proofs.Common.{length}
use Rattle.nesl_unify_graph.proofs.form.root_form.Goals as goal

pub returns-in-Part-clause-within : goal.returns-in-Part-clause-within
returns-in-Part-clause-within c = c.whole_form.ensures.within (length c.args.nodes.now)
