use Rattle.std.proofs.Common.{◌∙◌, sym, ap, List}
use Rattle.nesl_eval_top_level.specs.Stored.{Entry}
use Rattle.nesl_session_bindings.specs.Known.{datatype_count}
use Rattle.nesl_session_bindings.specs.Stored.{bindings_of}
use Rattle.nesl_session_bindings.proofs.Entries.{count_is}
use Rattle.nesl_session_bindings.proofs.bindings.Bindings.next_tag.Goals as goal

pub returns : goal.returns
returns c =
    c.datatypes.ensures ∙ sym (count_is c.self.inside.env c.self.invariant.fit) ∙ ap (λ (es : List Entry). datatype_count (bindings_of es)) c.self.view_is
