use Rattle.std.proofs.Common.{◌∙◌, Some, ap, sym, rules, get_or}
use Rattle.std.proofs.lemmas.Int.{to_z-of_z}
use Rattle.nesl_values.specs.Tree.{int, boolean, character}
use Rattle.nesl_values.specs.View.{tree_of, item_trees}
use Rattle.nesl_values.proofs.Sequences.{item_at}
use Rattle.nesl_values.proofs.items.Items.at.Goals as goal
use mir.Syntax.{w64}
use mir.Val.{SFits}

pub returns-in-Ints : goal.returns-in-Ints
returns-in-Ints g c =
    let fits : SFits w64 (get_or c.in-Ints.ints.now c.args.place (lib.IntN.pos 0)) = search rules in
    rw (to_z-of_z w64 _ fits) (item_at int c.in-Ints.ints.now _ c.args.place _ (ap item_trees c.in-Ints.is) c.requires)

pub returns-in-Bools : goal.returns-in-Bools
returns-in-Bools g c = item_at boolean c.in-Bools.bools.now _ c.args.place _ (ap item_trees c.in-Bools.is) c.requires

pub returns-in-Chars : goal.returns-in-Chars
returns-in-Chars g c = item_at character c.in-Chars.chars.now _ c.args.place _ (ap item_trees c.in-Chars.is) c.requires

pub returns-in-Values : goal.returns-in-Values
returns-in-Values g c =
    item_at tree_of c.in-Values.values.now _ c.args.place _ (ap item_trees c.in-Values.is) c.requires ∙ ap (λ v. Some (tree_of v)) (sym c.index-values-place.is)
