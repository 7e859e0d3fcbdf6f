use Rattle.std.proofs.Common.{◌∙◌, ap}
use Rattle.std.specs.Prelude.{None}
use Rattle.std.specs.Option.{unwrap_or}
use Rattle.nesl_infer_rules.specs.Steps.{key_of}
use Rattle.nesl_infer_rules.specs.Newest.{noted}
use Rattle.nesl_infer_rules.proofs.Newest.{noted-set}
use Rattle.nesl_infer_rules.proofs.locals.set.Goals as goal

pub returns-in-Ok-Some-clause-set : goal.returns-in-Ok-Some-clause-set
returns-in-Ok-Some-clause-set c = λ x.
    ap (noted (λ k. k.now) x) c.in-Ok-Some.ensures.entries
    ∙ noted-set (λ k. k.now) c.args.newest.now.entries c.in-Name.name c.args.variable (key_of c.args.key) (ap key_of c.in-Name.is) x

pub returns-in-Ok-None-clause-set : goal.returns-in-Ok-None-clause-set
returns-in-Ok-None-clause-set c = λ x.
    ap (noted (λ k. k.now) x) c.in-Ok-None.ensures.entries
    ∙ noted-set (λ k. k.now) c.args.newest.now.entries c.in-Name.name c.args.variable (key_of c.args.key) (ap key_of c.in-Name.is) x

pub returns-in-Err-clause-absent : goal.returns-in-Err-clause-absent
returns-in-Err-clause-absent c =
    (c.in-Name.name.now, ap key_of c.in-Name.is, ap (λ o. unwrap_or o None) c.in-Err.ensures.absent)
