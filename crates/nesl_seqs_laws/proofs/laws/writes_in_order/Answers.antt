use Rattle.nesl_seqs_laws.proofs.Written.{none_written, written_in_order}
use Rattle.nesl_seqs_laws.proofs.laws.writes_in_order.Goals as goal

pub returns-clause-none : goal.returns-clause-none
returns-clause-none c = none_written

pub returns-clause-more : goal.returns-clause-more
returns-clause-more c = written_in_order
