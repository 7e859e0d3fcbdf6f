use Rattle.std.proofs.Common.{◌/◌, ◌<◌, map, length, arith, rules}
use Rattle.nesl_values.specs.View.{tree_of, item_trees}
use Rattle.nesl_seqs_base.specs.Write.{overwritten, writes_of}
use Rattle.nesl_seqs_index.proofs.Writing.{windows_rest, windows_end, length_overwritten}
use Rattle.nesl_seqs_index.proofs.write.nodes_of_windows.Goals as goal

pub returns-in_err-used : goal.returns-in_err-used
returns-in_err-used g c =
    let ts = item_trees c.args.items in
    let here = windows_rest (overwritten ts (writes_of (length ts) (map tree_of c.args.pairs.now))) c.loop-window.window in
    rw c.from_residual.ensures (λ h. c.in_err-used.ensures (omega (arith, here, h)))

pub loop-window-preserved : goal.loop-window-preserved
loop-window-preserved g c =
    let ts = item_trees c.args.items in
    let here = windows_rest (overwritten ts (writes_of (length ts) (map tree_of c.args.pairs.now))) c.loop-window.window in
    (omega (arith, here, c.in_ok-used.ensures.0, c.in_ok-used.ensures.1), omega (arith, c.in_ok-used.ensures.0, c.in_ok-used.ensures.1))

pub returns : goal.returns
returns g c =
    let ts = item_trees c.args.items in
    let ws = writes_of (length ts) (map tree_of c.args.pairs.now) in
    let over : length ts / 4096 < c.loop-window.window = search rules in
    let done = windows_end (overwritten ts ws) c.loop-window.window (omega (arith, length_overwritten ts ws, over)) in
    (omega (arith, done), omega (arith, done))
