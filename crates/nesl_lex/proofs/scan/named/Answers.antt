use Rattle.nesl_lex.proofs.Words.{word_spelled, truth_spelled, name_spelled}
use Rattle.nesl_lex.proofs.scan.named.Goals as goal

pub returns-in-Some : goal.returns-in-Some
returns-in-Some c = word_spelled _ _ _ _ c.as_slice.ensures.value c.word.ensures c.in-Some.is

pub returns-in-Some-truth : goal.returns-in-Some-truth
returns-in-Some-truth c = truth_spelled _ _ _ _ c.as_slice-2.ensures.value c.truth.ensures c.in-Some-truth.is

pub returns-in-None : goal.returns-in-None
returns-in-None c = name_spelled _ _ _ _ _ c.as_slice.ensures.value c.word.ensures c.in_default.not-Some c.as_slice-2.ensures.value c.truth.ensures c.in-None.is
