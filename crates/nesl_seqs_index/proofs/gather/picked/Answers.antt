use Rattle.std.proofs.Common.{◌∙◌, ap, length, map, sym, arith}
use Rattle.std.proofs.lemmas.List.{take_all}
use Rattle.nesl_seqs_base.specs.Places.{elements_at, places_of}
use Rattle.nesl_seqs_index.proofs.Picking.{held_more, picked_same}
use Rattle.nesl_seqs_index.proofs.gather.picked.Goals as goal
use Rattle.nesl_seqs_index.proofs.gather.picked.Goals.{in-Some, in_default}

pub loop-index-preserved : goal.loop-index-preserved
loop-index-preserved g c =
    let xs = c.args.items.now in
    let is = c.args.indices.now in
    let i = c.loop-index.invariant in
    elim c.match-place_of.branch [
      | in-Some w ↦ rw w.made-is (record {
        picked = held_more g.I.Item.tree xs is c.loop-index.index-index c.index-item.result w.in-Some.place w.index-items-place.result c.loop-index.made.items _ (omega arith) c.index-item.is w.in-Some.ensures.place w.in-Some.ensures.within w.index-items-place.is i.picked w.push_reserved.ensures.items;
        within = omega (arith, i.within, w.push_reserved.ensures.len);
        room = omega (arith, i.room, w.push_reserved.ensures.capacity);
      })
      | in_default w ↦ rw w.made-is (record {
        picked = i.picked ∙ sym (picked_same g.I.Item.tree xs is c.loop-index.index-index c.index-item.result (omega arith) c.index-item.is w.in_default.ensures.place);
        within = omega (arith, i.within);
        room = i.room;
      })
    ]

pub returns : goal.returns
returns g c =
    let xs = c.args.items.now in
    c.loop-index.invariant.picked ∙ ap (λ is. elements_at xs (places_of (length xs) (map g.I.Item.tree is))) (take_all c.loop-index.index-index c.args.indices.now c.loop-index-test.false)
