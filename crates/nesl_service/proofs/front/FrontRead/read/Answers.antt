use Rattle.std.proofs.Common.{◌≡◌, ◌∙◌, ap, refl, sym, take}
use Rattle.nesl_service.proofs.Fronts.{front_ended, front_kept, front_nothing, front_read}
use Rattle.nesl_service.proofs.front.FrontRead.read.Goals as goal

pub returns-then-is_refused-clause-bytes : goal.returns-then-is_refused-clause-bytes
returns-then-is_refused-clause-bytes g c =
    let n = front_nothing c.args.self.now.opening (g.T.Read.remaining c.args.self.now.stream) (sym c.is_refused.ensures ∙ c.if-is_refused.true) in (n.0, λ none room. n.1)

pub returns-in-Ok-clause-bytes : goal.returns-in-Ok-clause-bytes
returns-in-Ok-clause-bytes g c =
    let opening = c.note.new.self.opening in
    let left = g.T.Read.remaining c.read.new.self in
    let kept : g.T.Read.remaining c.note.new.self.stream ≡ left = ap g.T.Read.remaining c.note.ensures.stream in
    let count = c.in-Ok.count in
    let buf = c.read.new.buf in (
      front_read c.args.self.now.opening opening (g.T.Read.remaining c.args.self.now.stream) left _ buf (take count buf) count c.note.result refl kept c.in-Ok.ensures.bytes.0 c.note.ensures.count c.note.ensures.front,
      front_ended opening left _ buf (take count buf) count c.note.result refl kept c.in-Ok.ensures.bound.0 c.note.ensures.some c.in-Ok.ensures.bytes.1,
    )

pub returns-in-Err-clause-bytes : goal.returns-in-Err-clause-bytes
returns-in-Err-clause-bytes g c = front_kept c.args.self.now.opening _ _ c.in-Err.ensures.bytes
