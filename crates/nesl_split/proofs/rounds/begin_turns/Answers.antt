use Rattle.std.proofs.Common.{arith}
use Rattle.nesl_split.proofs.Left.{names_seen}
use Rattle.nesl_split.proofs.rounds.begin_turns.Goals as goal

pub returns-clause-names : goal.returns-clause-names
returns-clause-names c = rw c.min-base.ensures (names_seen c.args.machine.now.base c.len.result c.args.machine.now.slots.items c.deref.result.now c.deref.ensures.value (omega (arith, c.len.ensures, c.args.machine.now.slots.ok.0)))
