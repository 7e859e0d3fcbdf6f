use Rattle.std.proofs.Common.{◌∙◌, ◌+◌, ◌-◌, ◌*◌, ◌<◌, ◌≤◌, ap, reverse, map, length, min, unwrap_or, get_or, arith, rules}
use Rattle.nesl_values.specs.View.{tree_of, element_tree, item_trees}
use Rattle.nesl_seqs_base.specs.Places.{arrival}
use Rattle.nesl_seqs_base.specs.Write.{writes_of, told_by}
use Rattle.nesl_seqs_index.proofs.Writing.{window_rest, window_end}
use Rattle.nesl_seqs_index.proofs.write.nodes_in.Goals as goal

pub returns-in_err-used : goal.returns-in_err-used
returns-in_err-used g c =
    let ts = item_trees c.args.items in
    let us = map tree_of c.args.pairs.now in
    let k = c.loop-offset.offset in
    let t = element_tree c.at-element.result in
    let within : k < 4096 = search rules in
    let here = window_rest ts (writes_of (length ts) us) (c.args.window * 4096) k t (unwrap_or (told_by us (get_or c.last_writers-last.result k 0)) t) within c.at-element.ensures (ap (λ o. unwrap_or o t) (c.last_writers-last.ensures k within ∙ ap (λ n. arrival (reverse (writes_of n us)) (c.args.window * 4096 + k)) c.len.ensures)) in
    rw c.from_residual.ensures (λ h. c.in_err-used.ensures (omega (arith, here, h)))

pub loop-offset-preserved : goal.loop-offset-preserved
loop-offset-preserved g c =
    let ts = item_trees c.args.items in
    let us = map tree_of c.args.pairs.now in
    let k = c.loop-offset.offset in
    let t = element_tree c.at-element.result in
    let within : k < 4096 = search rules in
    let here = window_rest ts (writes_of (length ts) us) (c.args.window * 4096) k t (unwrap_or (told_by us (get_or c.last_writers-last.result k 0)) t) within c.at-element.ensures (ap (λ o. unwrap_or o t) (c.last_writers-last.ensures k within ∙ ap (λ n. arrival (reverse (writes_of n us)) (c.args.window * 4096 + k)) c.len.ensures)) in
    (omega (arith, here, c.in_ok-used.ensures.0, c.in_ok-used.ensures.1), omega (arith, c.in_ok-used.ensures.0, c.in_ok-used.ensures.1))

pub returns : goal.returns
returns g c =
    let ts = item_trees c.args.items in
    let us = map tree_of c.args.pairs.now in
    let over : min 4096 (length ts - c.args.window * 4096) ≤ c.loop-offset.offset = search rules in
    let done = window_end ts (writes_of (length ts) us) (c.args.window * 4096) c.loop-offset.offset over in
    (omega (arith, done), omega (arith, done))
