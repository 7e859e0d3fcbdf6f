use Rattle.std.proofs.Common.{◌∙◌, ap, map}
use Rattle.nesl_values.specs.Tree.{int, boolean, character}
use Rattle.nesl_values.specs.View.{tree_of}
use Rattle.nesl_seqs_base.proofs.Made.{made}
use Rattle.nesl_seqs_index.proofs.Picking.{picked_seen}
use Rattle.nesl_seqs_index.proofs.gather.picked_copy.Goals as goal

pub returns-in_ok-picked-in-Ints : goal.returns-in_ok-picked-in-Ints
returns-in_ok-picked-in-Ints g c =
    rw c.in-Ints.is (made _ _ _ c.ints.ensures (ap (map int) c.in_ok-picked-in-Ints.ensures ∙ picked_seen int c.in-Ints.ints.now (map g.I.Item.tree c.args.indices.now)))

pub returns-in_ok-picked-in-Bools : goal.returns-in_ok-picked-in-Bools
returns-in_ok-picked-in-Bools g c =
    rw c.in-Bools.is (made _ _ _ c.bools.ensures (ap (map boolean) c.in_ok-picked-in-Bools.ensures ∙ picked_seen boolean c.in-Bools.bools.now (map g.I.Item.tree c.args.indices.now)))

pub returns-in_ok-picked-in-Chars : goal.returns-in_ok-picked-in-Chars
returns-in_ok-picked-in-Chars g c =
    rw c.in-Chars.is (made _ _ _ c.chars.ensures (ap (map character) c.in_ok-picked-in-Chars.ensures ∙ picked_seen character c.in-Chars.chars.now (map g.I.Item.tree c.args.indices.now)))

pub returns-in_ok-picked_values-in-Values : goal.returns-in_ok-picked_values-in-Values
returns-in_ok-picked_values-in-Values g c =
    rw c.in-Values.is (made _ _ _ c.sequence.ensures (c.in_ok-picked_values-in-Values.ensures ∙ picked_seen tree_of c.in-Values.values.now (map g.I.Item.tree c.args.indices.now)))
