use Rattle.nesl_line.proofs.Exchanges.{no_memory_exchange}
use Rattle.nesl_line.proofs.exchange.exchange.Goals as goal

pub returns-in_default-clause-exchange : goal.returns-in_default-clause-exchange
returns-in_default-clause-exchange g c = no_memory_exchange _ _ (g.H.Hearer.heard c.args.hearer.now c.args.world.now c.args.hearer.now c.args.world.now) _ c.requires.nothing_heard
