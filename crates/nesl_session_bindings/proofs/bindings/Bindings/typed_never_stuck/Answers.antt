use Rattle.nesl_eval_top_level.specs.Stored.{top_of}
use Rattle.nesl_session_bindings.proofs.Readers.{never_stuck}
use Rattle.nesl_session_bindings.proofs.bindings.Bindings.typed_never_stuck.Goals as goal

pub returns : goal.returns
returns c =
    never_stuck (c.inferred_lines_keep_types.ensures.outcomes top_of) c.self.inside.env c.args.self.now c.self.inside.elements c.self.invariant c.self.view_is
