use Rattle.nesl_eval_sound.proofs.Lines.{nothing_sound, variables_stay, functions_stay, datatypes_stay}
use Rattle.nesl_eval_sound.proofs.laws.lines_keep_types.Goals as goal

pub returns : goal.returns
returns g c = record {
  nothing = λ seen. nothing_sound seen;
  variables = λ seen. variables_stay seen;
  functions = λ seen. functions_stay seen;
  datatypes = λ seen. datatypes_stay seen;
}
