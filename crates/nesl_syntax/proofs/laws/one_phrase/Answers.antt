use Rattle.nesl_syntax_open.proofs.Complete.{one_tree, one_pattern, one_type}
use Rattle.nesl_syntax.proofs.laws.one_phrase.Goals as goal

pub returns : goal.returns
returns c = record {
  expression = λ ts a b p q. one_tree p q;
  pattern = λ ts a b p q. one_pattern p q;
  written_type = λ ts a b p q. one_type p q;
}
