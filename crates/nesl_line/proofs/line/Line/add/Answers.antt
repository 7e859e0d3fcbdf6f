use Rattle.std.proofs.Common.{◌≡◌, ◌-◌, length, take, arith, min}
use Rattle.nesl_line.specs.Lines.{most_handed}
use Rattle.nesl_line.proofs.Bytes.{extended, hold_bytes, hold_longer, hold_whole}
use Rattle.nesl_line.proofs.line.Line.add.Goals as goal

pub returns-then-kept-more : goal.returns-then-kept-more
returns-then-kept-more c = λ raw h.
    let bytes = c.args.self.now.bytes.items in
    let more = c.args.more.now in
    let kept = c.min-kept.result in
    let k : kept ≡ min (length more) (most_handed - length bytes) = omega (arith, c.args.self.now.bytes.ok.0, c.len.ensures, c.min-kept.ensures) in
    let e = extended _ c.is_err.result bytes (take kept more) c.extend_from_slice.new.self.items c.is_err.ensures.negation c.if-is_err.false c.extend_from_slice.ensures.items in
    (hold_bytes most_handed raw more bytes c.extend_from_slice.new.self.items c.args.self.now.is_longer kept h k e, hold_longer most_handed raw more bytes c.extend_from_slice.new.self.items c.args.self.now.is_longer kept h k c.if-kept-more.true)

pub returns-else-kept-more : goal.returns-else-kept-more
returns-else-kept-more c = λ raw h.
    let bytes = c.args.self.now.bytes.items in
    let more = c.args.more.now in
    let kept = c.min-kept.result in
    let k : kept ≡ min (length more) (most_handed - length bytes) = omega (arith, c.args.self.now.bytes.ok.0, c.len.ensures, c.min-kept.ensures) in
    let e = extended _ c.is_err.result bytes (take kept more) c.extend_from_slice.new.self.items c.is_err.ensures.negation c.if-is_err.false c.extend_from_slice.ensures.items in
    (hold_bytes most_handed raw more bytes c.extend_from_slice.new.self.items c.args.self.now.is_longer kept h k e, hold_whole most_handed raw more bytes c.extend_from_slice.new.self.items c.args.self.now.is_longer kept h k c.if-kept-more.false)
