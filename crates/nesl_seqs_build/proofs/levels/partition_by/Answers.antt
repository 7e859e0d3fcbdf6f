use Rattle.std.proofs.Common.{◌∙◌, [], pos, map, refl}
use Rattle.nesl_values.specs.Tree.{int, boolean, character, sequence}
use Rattle.nesl_values.specs.Parts.{as_int}
use Rattle.nesl_values.specs.View.{tree_of, item_trees}
use Rattle.nesl_seqs_base.specs.Levels.{pieces}
use Rattle.nesl_seqs_base.specs.Reductions.{all_of}
use Rattle.nesl_seqs_base.proofs.Priced.{made_of}
use Rattle.nesl_seqs_base.proofs.Shapes.{leaves_same, read_or, none_if_read}
use Rattle.nesl_seqs_build.proofs.levels.partition_by.Goals as goal

pub returns-in-Ints : goal.returns-in-Ints
returns-in-Ints g c =
    rw c.in-Ints.is (made_of (λ zs. sequence (map sequence (pieces (item_trees c.args.items) zs))) c.all_pieces.result c.in-Ints.ints.now (all_of as_int (map int c.in-Ints.ints.now)) c.all_pieces.ensures (leaves_same as_int int (λ _. refl) c.in-Ints.ints.now))

pub returns-in_ok-ints-in-Values : goal.returns-in_ok-ints-in-Values
returns-in_ok-ints-in-Values g c =
    rw c.in-Values.is (made_of (λ zs. sequence (map sequence (pieces (item_trees c.args.items) zs))) c.all_pieces-in-Values.result c.deref.result.now (all_of as_int (map tree_of c.in-Values.values.now)) c.all_pieces-in-Values.ensures (λ zs h. c.deref.ensures.value ∙ c.in_ok-ints-in-Values.ensures ∙ read_or as_int tree_of (pos 0) c.in-Values.values.now zs h))

pub returns-in-Bools : goal.returns-in-Bools
returns-in-Bools g c =
    rw c.in-Bools.is (made_of (λ zs. sequence (map sequence (pieces (item_trees c.args.items) zs))) c.all_pieces-in-Bools.result [] (all_of as_int (map boolean c.in-Bools.field-0.now)) c.all_pieces-in-Bools.ensures (none_if_read as_int boolean (λ _. refl) c.in-Bools.field-0.now))

pub returns-in-Chars : goal.returns-in-Chars
returns-in-Chars g c =
    rw c.in-Chars.is (made_of (λ zs. sequence (map sequence (pieces (item_trees c.args.items) zs))) c.all_pieces-in-Chars.result [] (all_of as_int (map character c.in-Chars.field-0.now)) c.all_pieces-in-Chars.ensures (none_if_read as_int character (λ _. refl) c.in-Chars.field-0.now))
