use Rattle.std.proofs.Common.{◌≡◌, true, rules}
use Rattle.nesl_syntax_open.proofs.turn.end_pattern.Goals as goal

pub returns : goal.returns
returns c = λ ws g bs x s sg sb sx.
    let begun : c.begins_value.result ≡ true = search rules in
    rw (c.begins_value.ensures g bs c.args.end.at x sg, begun) (c.bind.ensures ws g bs x s sg sb sx)
