use Rattle.std.proofs.Common.{◌≡◌, ◌∙◌, length, map, set, ap, sym, rules}
use Rattle.std.proofs.lemmas.List.{map-set, length-set, length-map, take_all}
use Rattle.nesl_values.specs.View.{tree_of, item_trees}
use Rattle.nesl_seqs_base.specs.Write.{overwritten, write_of, writes_of}
use Rattle.nesl_seqs_index.proofs.Writing.{overwritten_none, overwritten_turn, writes_same}
use Rattle.nesl_seqs_index.proofs.write.overwritten_values.Goals as goal
use Rattle.nesl_seqs_index.proofs.write.overwritten_values.Goals.{in-Some+in_ok-made-2, in_default}

pub loop-pair-init : goal.loop-pair-init
loop-pair-init g c =
    (c.in_ok-made.ensures ∙ sym (overwritten_none (item_trees c.args.items)), sym (length-map c.in_ok-made.made.items tree_of) ∙ ap length c.in_ok-made.ensures)

pub loop-pair-preserved : goal.loop-pair-preserved
loop-pair-preserved g c =
    let ts = item_trees c.args.items in
    let ps = c.args.pairs.now in
    let j = c.loop-pair.pair-index in
    let p = c.pair-item.result in
    let old = c.loop-pair.made.items in
    elim c.match-write_of.branch [
      | in-Some+in_ok-made-2 w ↦
          let is_set : c.match-write_of.made.items ≡ set old w.in-Some.place w.in_ok-made-2.field-0 = search rules in
          rw is_set (
            overwritten_turn tree_of ts (length ts) ps j p w.in-Some.place (tree_of w.in-Some.value.now) (map tree_of old) _ c.loop-pair-test.true c.pair-item.is (w.in-Some.ensures.write ∙ ap (λ n. write_of n (tree_of p)) c.len.ensures) c.loop-pair.invariant.0 (map-set tree_of old w.in-Some.place w.in_ok-made-2.field-0 ∙ ap (set (map tree_of old) w.in-Some.place) w.in_ok-made-2.ensures),
            length-set old w.in-Some.place w.in_ok-made-2.field-0 ∙ c.loop-pair.invariant.1,
          )
      | in_default w ↦
          rw w.made-is (c.loop-pair.invariant.0 ∙ ap (overwritten ts) (sym (writes_same tree_of (length ts) ps j p c.loop-pair-test.true c.pair-item.is (w.in_default.ensures.write ∙ ap (λ n. write_of n (tree_of p)) c.len.ensures))), c.loop-pair.invariant.1)
    ]

pub returns : goal.returns
returns g c =
    let ts = item_trees c.args.items in
    c.loop-pair.invariant.0 ∙ ap (λ ps. overwritten ts (writes_of (length ts) (map tree_of ps))) (take_all c.loop-pair.pair-index c.args.pairs.now c.loop-pair-test.false)
