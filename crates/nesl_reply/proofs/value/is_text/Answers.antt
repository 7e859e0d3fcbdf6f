use Rattle.std.proofs.Common.{◌&&◌, ap, sym, ◌∙◌}
use Rattle.std.specs.List.{list_all}
use Rattle.nesl_values.specs.Parts.{list_of}
use Rattle.nesl_values.specs.View.{trees_view}
use Rattle.nesl_reply.specs.Values.{is_quotable}
use Rattle.nesl_reply.proofs.Lists.{all_values}
use Rattle.nesl_reply.proofs.value.is_text.Goals as goal

pub returns-then-is_text_type : goal.returns-then-is_text_type
returns-then-is_text_type c =
    c.can_be_quoted.ensures ∙ sym (all_values c.args.items.now)
    ∙ ap (λ b. b && list_all is_quotable (list_of (trees_view c.args.items.now))) (sym (sym c.is_text_type.ensures ∙ c.if-is_text_type.true))
