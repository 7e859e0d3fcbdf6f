use Rattle.std.proofs.Common.{◌∙◌, sym, ap, List}
use Rattle.nesl_eval_top_level.specs.Stored.{Entry}
use Rattle.nesl_session_bindings.specs.Known.{environment}
use Rattle.nesl_session_bindings.specs.Stored.{bindings_of}
use Rattle.nesl_session_bindings.proofs.Entries.{environment_is}
use Rattle.nesl_session_bindings.proofs.bindings.Bindings.environment.Goals as goal

pub returns : goal.returns
returns c =
    sym (environment_is c.self.inside.env c.self.invariant.fit) ∙ ap (λ (es : List Entry). environment (bindings_of es)) c.self.view_is
