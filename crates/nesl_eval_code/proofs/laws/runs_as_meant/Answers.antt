use Rattle.std.proofs.Common.{[], refl, sym}
use Rattle.std.proofs.lemmas.List.{append-nil}
use Rattle.nesl_eval_meaning.specs.Names.{outside}
use Rattle.nesl_eval_code.specs.Means.{names_of}
use Rattle.nesl_eval_code.proofs.laws.runs_as_meant.Goals as goal

pub returns : goal.returns
returns c = λ n t env d e at h k. h n t env ([], sym (append-nil (names_of t))) at [] (outside []) refl k
