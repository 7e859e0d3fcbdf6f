use Rattle.std.proofs.Common.{◌∙◌, sym, length, is_some}
use Rattle.nesl_values.specs.Tree.{int, boolean, character}
use Rattle.nesl_values.specs.View.{tree_of, item_trees}
use Rattle.nesl_seqs_base.specs.Places.{place_of}
use Rattle.nesl_seqs_index.proofs.Picking.{list_all_map}
use Rattle.nesl_seqs_index.proofs.gather.price_of_gathered.Goals as goal

pub price_of_picked-requires : goal.price_of_picked-requires
price_of_picked-requires g c =
    let n = length (item_trees c.args.items) in
    sym (list_all_map (λ t. is_some (place_of n t)) int c.in-Ints.indices.now) ∙ (rw c.in-Ints.is at c.requires)

pub price_of_picked-requires-in-Bools : goal.price_of_picked-requires-in-Bools
price_of_picked-requires-in-Bools g c =
    let n = length (item_trees c.args.items) in
    sym (list_all_map (λ t. is_some (place_of n t)) boolean c.in-Bools.indices.now) ∙ (rw c.in-Bools.is at c.requires)

pub price_of_picked-requires-in-Chars : goal.price_of_picked-requires-in-Chars
price_of_picked-requires-in-Chars g c =
    let n = length (item_trees c.args.items) in
    sym (list_all_map (λ t. is_some (place_of n t)) character c.in-Chars.indices.now) ∙ (rw c.in-Chars.is at c.requires)

pub price_of_picked-requires-in-Values : goal.price_of_picked-requires-in-Values
price_of_picked-requires-in-Values g c =
    let n = length (item_trees c.args.items) in
    sym (list_all_map (λ t. is_some (place_of n t)) tree_of c.in-Values.indices.now) ∙ (rw c.in-Values.is at c.requires)
