use Rattle.std.proofs.Common.{◌∙◌, ap}
use Rattle.std.specs.Prelude.{nat_lt}
use Rattle.nesl_infer_names.specs.Scopes.{locals}
use Rattle.nesl_infer_names.proofs.Scoping.{is_counted}
use Rattle.nesl_infer_names.proofs.scope.Scope.has.Goals as goal

pub returns : goal.returns
returns c = ap (nat_lt 0) (c.count.ensures ∙ c.args.self.now.counted c.args.name.now) ∙ is_counted c.args.name.now (locals c.args.self.now)
