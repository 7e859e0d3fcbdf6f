use Rattle.nesl_eval_sound.proofs.Inferred.{sound_closed, inferred_kept, inferred_variables, inferred_functions, written_datatypes}
use Rattle.nesl_eval_sound.proofs.laws.inferred_lines_keep_types.Goals as goal

pub returns : goal.returns
returns g c = record {
  closed = λ seen. sound_closed seen;
  outcomes = λ seen. inferred_kept seen;
  variables = λ seen. inferred_variables seen;
  functions = λ seen. inferred_functions seen;
  datatypes = λ seen. written_datatypes seen;
}
