use Rattle.std.proofs.Common.{map, sym}
use Rattle.nesl_values.specs.View.{tree_of, element_tree}
use Rattle.nesl_eval_rounds.proofs.Rows.{row_element, owned}
use Rattle.nesl_eval_rounds.proofs.rounds.own_element.Goals as goal

pub returns-in-Some : goal.returns-in-Some
returns-in-Some g c =
    owned c.own.result _ (element_tree c.in-Some.element) (row_element (map tree_of c.args.sources.now) c.args.place c.args.index (element_tree c.in-Some.element) (sym c.in-Some.ensures)) c.own.ensures
