use Rattle.nesl_lex.proofs.Reading as reading
use Rattle.nesl_lex.proofs.laws.reading_computes.Goals as goal

pub returns : goal.returns
returns c = reading.reading_computes
