use Rattle.std.proofs.Common.{◌≡◌, rules}
use Rattle.nesl_keeper.proofs.Rows.{same_more}
use Rattle.nesl_keeper.proofs.replay.compare_lines.Goals as goal

pub loop-rest-preserved : goal.loop-rest-preserved
loop-rest-preserved c =
    let one : c.own_line-item.result.items ≡ c.line-item.result.items = search rules in
    λ others. c.loop-rest.invariant (same_more c.loop-rest.left.now c.loop-rest.rest.now c.own_line-item.result c.line-item.result c.in-len1-up-left.len_at_least c.in-len1-up.len_at_least c.own_line-item.is c.line-item.is one others)
