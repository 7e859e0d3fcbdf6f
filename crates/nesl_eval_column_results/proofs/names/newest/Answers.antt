use Rattle.std.proofs.Common.{◌≡◌, Some, length, map, refl, sym, ap, ◌∙◌}
use Rattle.std.specs.Prelude.{slice_get, option_map}
use Rattle.std.proofs.lemmas.Option.{slice_get_read, slice_get-map}
use borrow.Author.Tests.{ltb-true}
use Rattle.nesl_values.specs.Tree.{int, boolean, character}
use Rattle.nesl_values.specs.View.{tree_of}
use Rattle.nesl_eval_nodes.specs.Scopes.{frames_of}
use Rattle.nesl_eval_column_results.specs.Blocks.{block_places}
use Rattle.nesl_eval_column_results.proofs.Places.{row_at, leaves_at}
use Rattle.nesl_eval_column_results.proofs.names.newest.Goals as goal

pub returns-in_ok-at_places-in-Ints : goal.returns-in_ok-at_places-in-Ints
returns-in_ok-at_places-in-Ints g c =
    let b = c.args.block.now in
    let a = c.in_ok-value.ensures.lookup in
    let v = c.in_ok-value.value.now in
    let its : slice_get b.values.now c.args.index ≡ Some v = slice_get_read b.values.now (length b.values.now) c.args.index v refl (ltb-true _ _ (sym a.0)) a.1 in
    row_at (frames_of b.scope.now) (map tree_of b.values.now) c.args.index (tree_of v) (slice_get-map tree_of b.values.now c.args.index ∙ ap (option_map tree_of) its) (block_places b) _
    (leaves_at int c.in-Ints.items.now _ c.in-Ints.ensures.items (block_places b) c.in_ok-at_places-in-Ints.field-0.items c.in_ok-at_places-in-Ints.ensures)

pub returns-in_ok-at_places-in-Bools : goal.returns-in_ok-at_places-in-Bools
returns-in_ok-at_places-in-Bools g c =
    let b = c.args.block.now in
    let a = c.in_ok-value.ensures.lookup in
    let v = c.in_ok-value.value.now in
    let its : slice_get b.values.now c.args.index ≡ Some v = slice_get_read b.values.now (length b.values.now) c.args.index v refl (ltb-true _ _ (sym a.0)) a.1 in
    row_at (frames_of b.scope.now) (map tree_of b.values.now) c.args.index (tree_of v) (slice_get-map tree_of b.values.now c.args.index ∙ ap (option_map tree_of) its) (block_places b) _
    (leaves_at boolean c.in-Bools.items.now _ c.in-Bools.ensures.items (block_places b) c.in_ok-at_places-in-Bools.field-0.items c.in_ok-at_places-in-Bools.ensures)

pub returns-in_ok-at_places-in-Chars : goal.returns-in_ok-at_places-in-Chars
returns-in_ok-at_places-in-Chars g c =
    let b = c.args.block.now in
    let a = c.in_ok-value.ensures.lookup in
    let v = c.in_ok-value.value.now in
    let its : slice_get b.values.now c.args.index ≡ Some v = slice_get_read b.values.now (length b.values.now) c.args.index v refl (ltb-true _ _ (sym a.0)) a.1 in
    row_at (frames_of b.scope.now) (map tree_of b.values.now) c.args.index (tree_of v) (slice_get-map tree_of b.values.now c.args.index ∙ ap (option_map tree_of) its) (block_places b) _
    (leaves_at character c.in-Chars.items.now _ c.in-Chars.ensures.items (block_places b) c.in_ok-at_places-in-Chars.field-0.items c.in_ok-at_places-in-Chars.ensures)
