use Rattle.std.proofs.Common.{◌≡◌, ◌∙◌, [], sym}
use Rattle.nesl_infer_names.specs.Names.{datatype_in, unknown_types}
use Rattle.nesl_syntax_tree.specs.Views.{type_tree}
use Rattle.nesl_infer.proofs.Known.{none_first, known-written}
use Rattle.nesl_infer.proofs.infer.infer_datatype.Goals as goal

pub returns-in-None : goal.returns-in-None
returns-in-None g c =
    let ds = datatype_in c.args.context.now in
    let a = type_tree c.args.written.now in
    let known : unknown_types ds a ≡ [] = none_first (unknown_types ds a) (sym c.in_default.is ∙ c.in_ok-span.ensures) in
    let w = known-written ds a known in
    let none = rw c.in-None.is at c.in_ok-ty.ensures in
    absurd (none w.0 w.1)
