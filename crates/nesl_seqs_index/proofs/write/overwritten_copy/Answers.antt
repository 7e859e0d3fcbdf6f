use Rattle.nesl_seqs_base.proofs.Made.{made}
use Rattle.nesl_seqs_index.proofs.write.overwritten_copy.Goals as goal

pub returns-in_ok-overwritten_values-in-None : goal.returns-in_ok-overwritten_values-in-None
returns-in_ok-overwritten_values-in-None g c = made _ _ _ c.sequence.ensures c.in_ok-overwritten_values-in-None.ensures
