use Rattle.std.proofs.Common.{◌≡◌, ◌∙◌, ◌+◌, pos, ap, sym, map, take, unwrap_or, arith, to_z, of_z, w64, FitsSigned, rules}
use Rattle.std.proofs.lemmas.Int.{to_z-of_z}
use Rattle.nesl_seqs_base.specs.Scans.{joined_bits, join_bits}
use Rattle.nesl_seqs.specs.Elements.{number_in}
use Rattle.nesl_seqs.proofs.Before.{read_more, pushed_more, pushed_all, bits_more}
use Rattle.nesl_seqs.proofs.fold.scans.bits_before.Goals as goal

pub loop-item-preserved : goal.loop-item-preserved
loop-item-preserved g c =
    let f = g.T.Item.tree in
    let j = c.args.joint in
    let is = c.args.items.now in
    let zs = map number_in (map f is) in
    let k = c.loop-item.item-index in
    let n = c.unwrap_or.result in
    let so_far = to_z w64 c.loop-item.so_far-bits in
    let word : FitsSigned w64 n = search rules in
    let next_word : FitsSigned w64 c.of_numbers-so_far.result = search rules in
    let inv = c.loop-item.invariant in
    let read : n ≡ number_in (f c.item-item.result) = c.unwrap_or.ensures ∙ ap (λ o. unwrap_or o (pos 0)) c.as_int.ensures in
    let more : joined_bits j (take (k + 1) zs) ≡ join_bits j (joined_bits j (take k zs)) n = ap (joined_bits j) (read_more number_in f is k c.item-item.result c.loop-item-test.true c.item-item.is) ∙ bits_more j (take k zs) (number_in (f c.item-item.result)) ∙ ap (join_bits j (joined_bits j (take k zs))) (sym read) in
    let next : to_z w64 (of_z w64 c.of_numbers-so_far.result) ≡ join_bits j so_far n = to_z-of_z w64 c.of_numbers-so_far.result next_word ∙ c.of_numbers-so_far.ensures ∙ ap (join_bits j so_far) (to_z-of_z w64 n word) in (
      next ∙ ap (λ t. join_bits j t n) inv.0 ∙ sym more,
      pushed_more (joined_bits j) zs k c.loop-item.bits.items _ so_far c.in_ok-push.ensures.items inv.0 inv.1,
      omega arith,
    )

pub returns : goal.returns
returns g c =
    pushed_all (joined_bits c.args.joint) number_in g.T.Item.tree c.args.items.now c.loop-item.item-index c.loop-item.bits.items c.loop-item-test.false c.loop-item.invariant.2 c.loop-item.invariant.1
