use Rattle.nesl_infer.proofs.Instanced.{typed-with}
use Rattle.nesl_infer.proofs.laws.typings_have_instances.Goals as goal

pub returns : goal.returns
returns c = λ of k put within N M w e sc t h. typed-with of k put within N M w e sc t h
