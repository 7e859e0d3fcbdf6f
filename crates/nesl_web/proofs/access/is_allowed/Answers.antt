use Rattle.std.proofs.Common.{◌≡◌, length, arith}
use Rattle.nesl_web.proofs.AccessLemmas.{one_host}
use Rattle.nesl_web.proofs.access.is_allowed.Goals as goal

pub returns-then-is_known : goal.returns-then-is_known
returns-then-is_known c =
    let one : length c.args.hosts.now ≡ 1 = omega (arith, c.if-hosts-ne1.false) in
    one_host _ c.args.hosts.now c.args.origins.now _ _ _ one c.is_known.ensures c.if-is_known.true c.are_of.ensures
