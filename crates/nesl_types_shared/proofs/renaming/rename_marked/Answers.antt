use Rattle.std.proofs.Common.{◌<◌, length, arith}
use Rattle.nesl_types_shared.proofs.Reached.{renaming_more, renaming_below}
use Rattle.nesl_types_shared.proofs.renaming.rename_marked.Goals as goal

pub loop-next-preserved : goal.loop-next-preserved
loop-next-preserved c =
    let from = c.args.from.now in
    let of = c.args.of.now in
    let mid = c.loop-next.to in
    let new = c.put_renamed.new.to in
    let p = c.in_ok-places.field-0 in
    let places = c.loop-next.places in
    let marks = c.args.marks.now in
    let k = c.loop-next.next in
    let r = c.requires.marks in
    let i = c.loop-next.invariant in
    let inside : k < length from = omega (arith, c.len-next-end.ensures.len, c.loop-next-test.true) in
    let mark = c.if-not-marks-next.false in
    let put = c.in_ok-places.ensures.put in
    let old = c.args.to.now in
    let place = c.args.place in
    let x = c.shape.result in
    let o = c.requires.places in
    record {
      renaming = renaming_more of old mid from marks place k places x r mark inside c.shape.ensures.parts c.shape.ensures.shape i.renaming new p o c.put_renamed.ensures.extends put.within put.here;
      below = renaming_below of old mid from marks place k places x r mark inside c.shape.ensures.parts c.shape.ensures.shape i.renaming new p o put i.below;
    }
