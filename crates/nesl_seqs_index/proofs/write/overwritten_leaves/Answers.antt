use Rattle.std.proofs.Common.{◌≡◌, ◌∙◌, length, map, set, ap, sym, rules}
use Rattle.std.proofs.lemmas.List.{map-set, length-set, take_all}
use Rattle.nesl_values.specs.View.{tree_of}
use Rattle.nesl_seqs_base.specs.Write.{overwritten, writes_of}
use Rattle.nesl_seqs_index.proofs.Writing.{overwritten_none, overwritten_turn, writes_same}
use Rattle.nesl_seqs_index.proofs.write.overwritten_leaves.Goals as goal
use Rattle.nesl_seqs_index.proofs.write.overwritten_leaves.Goals.{in-Some+in-Some-of, in_default}

pub loop-pair-init : goal.loop-pair-init
loop-pair-init g c = (ap (map g.T.Leaf.leaf) c.in_ok-made.ensures.items ∙ sym (overwritten_none (map g.T.Leaf.leaf c.args.items.now)), ap length c.in_ok-made.ensures.items)

pub loop-pair-preserved : goal.loop-pair-preserved
loop-pair-preserved g c =
    let leaf = g.T.Leaf.leaf in
    let xs = c.args.items.now in
    let ps = c.args.pairs.now in
    let j = c.loop-pair.pair-index in
    let p = c.pair-item.result in
    let old = c.loop-pair.made.items in
    elim c.match-write_of.branch [
      | in-Some+in-Some-of w ↦
          let is_set : c.match-write_of.made.items ≡ set old w.in-Some.place w.in-Some-of.leaf = search rules in
          rw is_set (
            overwritten_turn tree_of (map leaf xs) (length xs) ps j p w.in-Some.place (tree_of w.in-Some.value.now) (map leaf old) _ c.loop-pair-test.true c.pair-item.is w.in-Some.ensures.write c.loop-pair.invariant.0 (map-set leaf old w.in-Some.place w.in-Some-of.leaf ∙ ap (set (map leaf old) w.in-Some.place) (sym w.in-Some-of.ensures)),
            length-set old w.in-Some.place w.in-Some-of.leaf ∙ c.loop-pair.invariant.1,
          )
      | in_default w ↦
          rw w.made-is (c.loop-pair.invariant.0 ∙ ap (overwritten (map leaf xs)) (sym (writes_same tree_of (length xs) ps j p c.loop-pair-test.true c.pair-item.is w.in_default.ensures.write)), c.loop-pair.invariant.1)
    ]

pub returns : goal.returns
returns g c =
    let xs = c.args.items.now in
    c.loop-pair.invariant.0 ∙ ap (λ ps. overwritten (map g.T.Leaf.leaf xs) (writes_of (length xs) (map tree_of ps))) (take_all c.loop-pair.pair-index c.args.pairs.now c.loop-pair-test.false)
