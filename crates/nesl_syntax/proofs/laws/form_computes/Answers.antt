use Rattle.nesl_syntax.proofs.Lines.{form_is, form_of}
use Rattle.nesl_syntax.proofs.laws.form_computes.Goals as goal

pub returns : goal.returns
returns c = λ ts l. (form_is ts l, form_of ts l)
