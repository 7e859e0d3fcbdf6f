use Rattle.std.proofs.Common.{◌≡◌, ◌∙◌, sym, ap, subst, length-set, arith, Some, true}
use Rattle.std.proofs.lemmas.Option.{slice_get-get_or}
use Rattle.nesl_eval.specs.Reached.{IsMarked}
use Rattle.nesl_eval.proofs.Reaching.{queued_more, once_more, grows_more, set_there}
use Rattle.nesl_eval.proofs.reached.Reached.note.Goals as goal
use Rattle.nesl_eval.proofs.reached.Reached.note.Goals.{else-place-len-via-then-place-len+else-not-index, else-place-len-via-else-place-len}

pub invariant_of-self-then-not-index-clause-queued : goal.invariant_of-self-then-not-index-clause-queued
invariant_of-self-then-not-index-clause-queued c = rw c.in_ok-push.ensures.items (queued_more c.args.self.now.marks.items c.args.self.now.queue.items c.args.place c.args.self.now.queued)

pub invariant_of-self-then-not-index-clause-once : goal.invariant_of-self-then-not-index-clause-once
invariant_of-self-then-not-index-clause-once c = rw c.in_ok-push.ensures.items (once_more c.args.self.now.marks.items c.args.self.now.queue.items c.args.place c.index.result.now (omega (arith, c.if-place-len.true, c.len.ensures)) c.index.ensures c.if-not-index.true c.args.self.now.once)

pub returns-in_ok-push-clause-grows : goal.returns-in_ok-push-clause-grows
returns-in_ok-push-clause-grows c = rw c.in_ok-push.ensures.items (grows_more c.args.self.now.marks.items c.args.self.now.queue.items c.args.place)

pub returns-in_ok-push-clause-marked : goal.returns-in_ok-push-clause-marked
returns-in_ok-push-clause-marked c h = set_there c.args.self.now.marks.items c.args.place true (omega (arith, c.if-place-len.true, c.len.ensures))

pub returns-else-place-len-clause-marked : goal.returns-else-place-len-clause-marked
returns-else-place-len-clause-marked c h = elim c.else-place-len.branch [
  | else-place-len-via-then-place-len+else-not-index w ↦ slice_get-get_or c.args.self.now.marks.items c.args.place w.index.result.now h ∙ ap (λ x. Some x) (sym w.index.ensures ∙ w.if-not-index.false)
  | else-place-len-via-else-place-len w ↦ absurd (omega (arith, h, w.if-place-len.false, c.len.ensures))
]
