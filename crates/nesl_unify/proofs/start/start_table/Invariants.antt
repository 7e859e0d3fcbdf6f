use Rattle.nesl_unify.specs.Starts.{IsStart}
use Rattle.nesl_unify.proofs.start.start_table.Given as goal

abbrev pub invariant-loop-fact : goal.invariant-loop-fact
invariant-loop-fact l = IsStart l.count l.fact-index l.facts l.nodes.items l.pairs.items
