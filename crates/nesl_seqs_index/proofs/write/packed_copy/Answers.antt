use Rattle.std.proofs.Common.{◌≡◌, ◌∙◌, ap, length, map, IfSome, subst}
use Rattle.nesl_values.specs.Tree.{int, boolean, character, sequence}
use Rattle.nesl_values.specs.View.{tree_of}
use Rattle.nesl_seqs_base.specs.Write.{overwritten, writes_of}
use Rattle.nesl_seqs_index.proofs.Writing.{packed_seen}
use Rattle.nesl_seqs_index.proofs.write.packed_copy.Goals as goal

pub returns-in_ok-ints-in-Some : goal.returns-in_ok-ints-in-Some
returns-in_ok-ints-in-Some g c =
    let xs = c.in-Ints.ints.now in
    let us = map tree_of c.args.pairs.now in
    rw c.in-Ints.is (c.in_ok-ints-in-Some.ensures ∙ ap sequence (packed_seen int xs us _ (subst (λ o. IfSome o (λ v. map int v.items ≡ overwritten (map int xs) (writes_of (length xs) us))) c.in-Some.is c.in_ok-made-in-Ints.ensures)))

pub returns-in_ok-bools-in-Some-2 : goal.returns-in_ok-bools-in-Some-2
returns-in_ok-bools-in-Some-2 g c =
    let xs = c.in-Bools.bools.now in
    let us = map tree_of c.args.pairs.now in
    rw c.in-Bools.is (c.in_ok-bools-in-Some-2.ensures ∙ ap sequence (packed_seen boolean xs us _ (subst (λ o. IfSome o (λ v. map boolean v.items ≡ overwritten (map boolean xs) (writes_of (length xs) us))) c.in-Some-2.is c.in_ok-made-in-Bools.ensures)))

pub returns-in_ok-chars-in-Some-3 : goal.returns-in_ok-chars-in-Some-3
returns-in_ok-chars-in-Some-3 g c =
    let xs = c.in-Chars.chars.now in
    let us = map tree_of c.args.pairs.now in
    rw c.in-Chars.is (c.in_ok-chars-in-Some-3.ensures ∙ ap sequence (packed_seen character xs us _ (subst (λ o. IfSome o (λ v. map character v.items ≡ overwritten (map character xs) (writes_of (length xs) us))) c.in-Some-3.is c.in_ok-made-in-Chars.ensures)))
