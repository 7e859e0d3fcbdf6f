use Rattle.nesl_infer.proofs.Meant.{meant-with}
use Rattle.nesl_infer.proofs.laws.meanings_have_instances.Goals as goal

pub returns : goal.returns
returns g c = λ own put. meant-with c.args.context.now c.requires own put
