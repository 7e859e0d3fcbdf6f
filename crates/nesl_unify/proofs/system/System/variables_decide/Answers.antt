use Rattle.std.proofs.Common.{length}
use Rattle.nesl_unify.proofs.Facts.{true_same}
use Rattle.nesl_unify.proofs.system.System.variables_decide.Goals as goal

pub returns : goal.returns
returns c = λ s z h. let a = c.args.self.now in true_same a.instances (length a.members.items) a.facts.items s z c.requires.facts h
