use Rattle.std.proofs.Common.{◌∙◌, arith}
use Rattle.nesl_eval_top_level.specs.TopLevels.{table_in}
use Rattle.nesl_eval.proofs.Reaching.{marks_kept, few_queued, bodies_more, all_reached}
use Rattle.nesl_eval.proofs.reached.places_reached.Goals as goal

pub loop-next-smaller : goal.loop-next-smaller
loop-next-smaller c =
    let few = few_queued c.loop-next.reached.marks.items c.loop-next.reached.queue.items c.loop-next.reached.once in
    omega (arith, few, c.loop-next-test.true, c.len.ensures, c.loop-next.invariant.places)

pub loop-next-preserved : goal.loop-next-preserved
loop-next-preserved c =
    let tb = table_in c.args.tops.now in
    let old = c.loop-next.reached in
    let new = c.go_into.new.self in
    let grows = c.in_ok-go_into.ensures.grows in
    record {
      places = grows.places ∙ c.loop-next.invariant.places;
      own = marks_kept tb old.marks.items new.marks.items old.queue.items new.queue.items c.args.code.now grows c.loop-next.invariant.own;
      bodies =
          bodies_more tb old.marks.items new.marks.items old.queue.items new.queue.items c.loop-next.next c.index-place.result.now (omega (arith, c.loop-next-test.true, c.len.ensures)) c.index-place.ensures grows c.in_ok-go_into.ensures.marked
          c.loop-next.invariant.bodies;
    }

pub returns : goal.returns
returns c =
    let old = c.loop-next.reached in
    all_reached (table_in c.args.tops.now) c.args.code.now old.marks.items old.queue.items c.loop-next.next c.args.places c.requires c.loop-next.invariant.places (omega (arith, c.loop-next-test.false, c.len.ensures)) old.queued c.loop-next.invariant.own c.loop-next.invariant.bodies
