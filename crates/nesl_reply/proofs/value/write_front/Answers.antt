use Rattle.std.proofs.Common.{◌≡◌, ◌++◌, ap, sym, ◌∙◌}
use Rattle.nesl_values.specs.Tree.{sequence}
use Rattle.nesl_values.specs.View.{tree_of, item_trees}
use Rattle.nesl_reply.specs.Values.{datatypes, value_text as text_of_value}
use Rattle.nesl_reply.specs.Tasks.{tasks_text}
use Rattle.nesl_reply.proofs.value.write_front.Goals as goal

pub returns-in_ok-write_items-in-Sequence-clause-text : goal.returns-in_ok-write_items-in-Sequence-clause-text
returns-in_ok-write_items-in-Sequence-clause-text g c =
    let known = datatypes c.args.context.now in
    let read : sequence (item_trees c.items.result) ≡ tree_of c.args.value.now = ap sequence c.items.ensures.items ∙ sym c.in-Sequence.ensures.0 in
    c.in_ok-write_items-in-Sequence.ensures.text known c.args.brackets ∙ ap (λ t. c.args.out.now.items ++ (text_of_value known c.args.brackets c.args.ty.now t ++ tasks_text known c.args.tasks.now.items)) read
