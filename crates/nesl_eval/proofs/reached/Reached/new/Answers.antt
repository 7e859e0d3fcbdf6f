use Rattle.nesl_eval.proofs.Reaching.{none_queued, none_once}
use Rattle.nesl_eval.proofs.reached.Reached.new.Goals as goal

pub invariant_of-result-clause-queued : goal.invariant_of-result-clause-queued
invariant_of-result-clause-queued c = none_queued c.args.places c.in_ok-marks.marks.items c.new.result.items (c.in_ok-marks.ensures.items_if_clones_equal (λ y e. e)) c.new.ensures.items

pub invariant_of-result-clause-once : goal.invariant_of-result-clause-once
invariant_of-result-clause-once c = none_once c.args.places c.in_ok-marks.marks.items c.new.result.items (c.in_ok-marks.ensures.items_if_clones_equal (λ y e. e)) c.new.ensures.items
