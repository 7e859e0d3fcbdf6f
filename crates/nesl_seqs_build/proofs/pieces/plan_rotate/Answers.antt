use Rattle.std.proofs.Common.{◌≡◌, ◌∙◌, ◌-◌, ◌++◌, ap, sym, length, take, drop, w64, FitsSigned, rules}
use Rattle.std.proofs.lemmas.Int.{to_z-of_z}
use Rattle.nesl_values.specs.Tree.{sequence}
use Rattle.nesl_values.specs.View.{item_trees}
use Rattle.nesl_seqs_base.specs.Arguments.{sequence_and_int}
use Rattle.nesl_seqs_base.specs.Lent.{argument_tree}
use Rattle.nesl_seqs_base.specs.Outcome.{gives}
use Rattle.nesl_seqs_base.specs.Pieces.{places_on, rotated}
use Rattle.nesl_seqs_build.proofs.Moved.{turned, turned_len}
use Rattle.nesl_seqs_build.specs.declared.plan.Plan.{Plan}
use Rattle.nesl_seqs_build.proofs.Planned.{plan_given}
use Rattle.nesl_seqs_build.proofs.pieces.plan_rotate.Goals as goal

pub returns : goal.returns
returns g c =
    let fits : FitsSigned w64 c.in-Some.count = search rules in
    let ts = item_trees c.in-Some.items in
    let start = length ts - places_on (length ts) c.in-Some.count in
    let is : item_trees c.part.result ++ item_trees c.part-2.result ≡ drop start ts ++ take start ts = turned ts c.in-Some.count c.len-len.result c.turn.result _ _ c.len-len.ensures (c.turn.ensures.places ∙ ap (places_on c.len-len.result) (to_z-of_z w64 c.in-Some.count fits)) c.part.ensures c.part-2.ensures in
    plan_given (sequence_and_int (argument_tree c.args.argument)) (ts, c.in-Some.count) (λ p. rotated p.0 p.1) (λ p. length p.0) (Plan.Joined c.part.result c.part-2.result) c.in-Some.ensures.parts (ap (λ us. gives (sequence us)) (sym is)) (turned_len ts (item_trees c.part.result) (item_trees c.part-2.result) start is) tt
