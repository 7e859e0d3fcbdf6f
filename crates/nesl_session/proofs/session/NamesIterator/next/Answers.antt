use Rattle.std.proofs.Common.{arith}
use Rattle.nesl_session_bindings.specs.Stored.{bindings_of}
use Rattle.nesl_session.proofs.Naming.{next_name}
use Rattle.nesl_session.proofs.session.NamesIterator.next.Goals as goal

pub returns-clause-steps : goal.returns-clause-steps
returns-clause-steps c = next_name (bindings_of c.args.self.now.bindings.now) c.args.self.now.place c.name_at-name.result (omega arith) c.name_at-name.ensures
