use Rattle.std.proofs.Common.{◌+◌, ◌<◌, sym, length, map, nat_lt, arith}
use Rattle.std.specs.Prelude.{nat_le, sum_by}
use Rattle.std.proofs.lemmas.Bool.{or_right, lt-ltb}
use Rattle.nesl_session.proofs.line.is_full.Goals as goal

pub returns-in-None-clause-full : goal.returns-in-None-clause-full
returns-in-None-clause-full c =
    let a = c.args.standing.now in
    let ls = map (λ v. v.items) a.transcript.items in
    let over : a.limits.transcript_bytes < sum_by length ls + length c.args.text.now = omega (arith, c.in-None.ensures, c.requires.bytes) in
    sym (or_right (nat_le a.limits.transcript_lines (length ls)) (nat_lt a.limits.transcript_bytes (sum_by length ls + length c.args.text.now)) (lt-ltb a.limits.transcript_bytes (sum_by length ls + length c.args.text.now) over))
