use Rattle.std.proofs.Common.{◌∙◌, [], true, false, map, refl}
use Rattle.nesl_values.specs.Tree.{int, boolean, character}
use Rattle.nesl_values.specs.Parts.{as_bool}
use Rattle.nesl_values.specs.View.{tree_of, item_trees}
use Rattle.nesl_seqs_base.specs.Pieces.{sequence_of_two}
use Rattle.nesl_seqs_base.specs.Sides.{marked}
use Rattle.nesl_seqs_base.specs.Reductions.{all_of}
use Rattle.nesl_seqs_base.proofs.Priced.{made_of}
use Rattle.nesl_seqs_base.proofs.Shapes.{leaves_same, read_or, none_if_read}
use Rattle.nesl_seqs_build.proofs.sides.split_by.Goals as goal

pub returns-in-Bools : goal.returns-in-Bools
returns-in-Bools g c =
    rw c.in-Bools.is (made_of (λ bs. sequence_of_two (marked false (item_trees c.args.items) bs) (marked true (item_trees c.args.items) bs)) c.both_pieces.result c.in-Bools.bools.now (all_of as_bool (map boolean c.in-Bools.bools.now)) c.both_pieces.ensures (leaves_same as_bool boolean (λ _. refl) c.in-Bools.bools.now))

pub returns-in_ok-bools-in-Values : goal.returns-in_ok-bools-in-Values
returns-in_ok-bools-in-Values g c =
    rw c.in-Values.is (made_of (λ bs. sequence_of_two (marked false (item_trees c.args.items) bs) (marked true (item_trees c.args.items) bs)) c.both_pieces-in-Values.result c.deref.result.now (all_of as_bool (map tree_of c.in-Values.values.now)) c.both_pieces-in-Values.ensures (λ zs h. c.deref.ensures.value ∙ c.in_ok-bools-in-Values.ensures ∙ read_or as_bool tree_of false c.in-Values.values.now zs h))

pub returns-in-Ints : goal.returns-in-Ints
returns-in-Ints g c =
    rw c.in-Ints.is (made_of (λ bs. sequence_of_two (marked false (item_trees c.args.items) bs) (marked true (item_trees c.args.items) bs)) c.both_pieces-in-Ints.result [] (all_of as_bool (map int c.in-Ints.field-0.now)) c.both_pieces-in-Ints.ensures (none_if_read as_bool int (λ _. refl) c.in-Ints.field-0.now))

pub returns-in-Chars : goal.returns-in-Chars
returns-in-Chars g c =
    rw c.in-Chars.is (made_of (λ bs. sequence_of_two (marked false (item_trees c.args.items) bs) (marked true (item_trees c.args.items) bs)) c.both_pieces-in-Chars.result [] (all_of as_bool (map character c.in-Chars.field-0.now)) c.both_pieces-in-Chars.ensures (none_if_read as_bool character (λ _. refl) c.in-Chars.field-0.now))
