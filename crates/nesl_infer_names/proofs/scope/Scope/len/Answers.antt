use Rattle.std.proofs.Common.{sym, ◌∙◌}
use Rattle.nesl_infer_names.proofs.Scoping.{newest-length}
use Rattle.nesl_infer_names.proofs.scope.Scope.len.Goals as goal

pub returns : goal.returns
returns c = c.len.ensures ∙ c.args.self.now.names.ok.0 ∙ sym (newest-length (λ k. k.items) c.args.self.now.names.items)
