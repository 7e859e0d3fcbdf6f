use Rattle.nesl_lex.proofs.Turns.{one_list, not_both, one_place}
use Rattle.nesl_lex.proofs.Reading.{each_ends}
use Rattle.nesl_lex.proofs.laws.one_reading.Goals as goal

pub returns : goal.returns
returns c = record {
  one_list = one_list;
  one_place = one_place;
  not_both = λ line ts at t s. not_both line at ts s t;
  either = each_ends;
}
