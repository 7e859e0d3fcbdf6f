use Rattle.std.proofs.Common.{◌≡◌, length, map, arith}
use Rattle.std.proofs.lemmas.List.{length-map}
use Rattle.nesl_reply.specs.Replies.{report_of}
use Rattle.nesl_session.specs.Inside.{state_of}
use Rattle.nesl_session.proofs.Replied.{replied}
use Rattle.nesl_session.proofs.line.answer.Goals as goal

pub returns : goal.returns
returns c =
    let a = c.args.standing.now in
    let n : c.len.result ≡ length (map (λ v. v.items) a.transcript.items) = omega (arith, length-map a.transcript.items (λ v. v.items), a.transcript.ok.0, c.len.ensures) in
    replied (state_of a) c.args.finding.now c.len.result (report_of c.reply-reply.result) c.in_ok-text.text.items c.fault.result c.is_recorded.result c.made.result c.made.ensures c.fault.ensures c.is_recorded.ensures c.in_ok-text.ensures c.reply-reply.ensures n
