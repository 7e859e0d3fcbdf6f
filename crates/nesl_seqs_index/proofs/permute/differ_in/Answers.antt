use Rattle.std.proofs.Common.{◌≡◌, map, take, true, refl, rules}
use Rattle.nesl_seqs_index.specs.Marks.{is_new}
use Rattle.nesl_seqs_base.specs.Places.{places_of}
use Rattle.nesl_seqs_index.proofs.Differing.{held_turn, new_turn, held_same, new_same, elsewhere_turn}
use Rattle.nesl_seqs_index.proofs.permute.differ_in.Goals as goal
use Rattle.nesl_seqs_index.proofs.permute.differ_in.Goals.{in-Some+else-not-note, in_default}

pub loop-index-preserved : goal.loop-index-preserved
loop-index-preserved g c =
    let f = g.I.Item.tree in
    let is = c.args.indices.now in
    let j = c.loop-index.index-index in
    let seen = places_of c.args.len (map f (take j is)) in
    elim c.match-place_of.branch [
      | in-Some+else-not-note w ↦
          let told = w.note.ensures.new seen c.loop-index.invariant.0 in
          let new : is_new c.args.window seen w.in-Some.place ≡ true = search rules in
          rw w.marks-is (
            held_turn f w.note.new.self.words c.args.len c.args.window is j c.index-item.result w.in-Some.place c.loop-index-test.true c.index-item.is w.in-Some.ensures.place (w.note.ensures.holds seen c.loop-index.invariant.0),
            new_turn f c.args.len c.args.window is j c.index-item.result w.in-Some.place _ c.loop-index-test.true c.index-item.is w.in-Some.ensures.place new c.loop-index.invariant.1,
          )
      | in_default w ↦
          rw w.marks-is (
            held_same f c.loop-index.marks.words c.args.len c.args.window is j c.index-item.result c.loop-index-test.true c.index-item.is w.in_default.ensures.place c.loop-index.invariant.0,
            new_same f c.args.len c.args.window is j c.index-item.result _ c.loop-index-test.true c.index-item.is w.in_default.ensures.place c.loop-index.invariant.1,
          )
    ]

pub loop-index-preserved-then-is_elsewhere : goal.loop-index-preserved-then-is_elsewhere
loop-index-preserved-then-is_elsewhere g c =
    elsewhere_turn g.I.Item.tree c.loop-index.marks.words c.args.len c.args.window c.args.indices.now c.loop-index.index-index c.index-item.result _ c.loop-index-test.true c.index-item.is (λ k named. c.if-is_elsewhere.ensures refl c.args.len k named) c.loop-index.invariant
