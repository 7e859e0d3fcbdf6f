use Rattle.std.proofs.Common.{◌+◌, ◌∙◌, arith, drop, refl, slice_index, sym, take}
use Rattle.nesl_service.proofs.Fronts.{front_ends, front_more, front_whole}
use Rattle.nesl_service.proofs.front.Front.note.Goals as goal

pub loop-place-preserved : goal.loop-place-preserved
loop-place-preserved g c = (
  c.loop-place.invariant.0,
  sym c.is_refused.ensures ∙ c.if-is_refused.false,
  front_more c.args.self.now.opening c.loop-place.self.opening c.args.bytes.now c.loop-place.place c.loop-place.invariant.2 (slice_index c.args.bytes.now c.loop-place.place) c.after-self.result c.loop-place-test.true c.loop-place.invariant.1 refl c.after-self.ensures,
)

pub returns-then-is_refused-clause-front : goal.returns-then-is_refused-clause-front
returns-then-is_refused-clause-front g c =
    let place = c.loop-place.place in
    let bytes = c.args.bytes.now in
    front_ends c.args.self.now.opening c.after-self.result bytes (take (place + 1) bytes) (drop (place + 1) bytes) (sym c.is_refused.ensures ∙ c.if-is_refused.true)
    (front_more c.args.self.now.opening c.loop-place.self.opening bytes place c.loop-place.invariant.2 (slice_index c.args.bytes.now c.loop-place.place) c.after-self.result c.loop-place-test.true c.loop-place.invariant.1 refl c.after-self.ensures)

pub returns-clause-front : goal.returns-clause-front
returns-clause-front g c = front_whole c.args.self.now.opening c.loop-place.self.opening c.args.bytes.now c.loop-place.place c.loop-place.invariant.2 (omega arith)
