use Rattle.std.proofs.Common.{◌≡◌, ◌∙◌, ap, sym, subst, arith, [], ◌∷◌, ◌++◌, append_assoc}
use Rattle.std.specs.List.{AllByRecursion}
use Rattle.nesl_eval_code.specs.Means.{names_of, place_of}
use Rattle.nesl_eval_top_level.specs.TopLevels.{table_in}
use Rattle.nesl_eval.specs.Reached.{own_place, parts_of, Marks}
use Rattle.nesl_eval.proofs.Reaching.{marks_kept, all_both, all_kept, grows_none, grows_then, names_none, names_place, last_part, all_parts, one_more, parts-Sequence, parts-Let, parts-Each, parts-FilteredEach}
use Rattle.nesl_eval.proofs.reached.Reached.+marking.Goals as goal

pub go_through-returns-in_ok-note-in-Call-clause-marked : goal.go_through-returns-in_ok-note-in-Call-clause-marked
go_through-returns-in_ok-note-in-Call-clause-marked t c =
    let tb = table_in c.args.tops.now in
    let old = c.note-in-Call.new.self in
    let new = c.go_through.new.self in
    last_part tb c.args.code.now [] old.marks.items new.marks.items old.queue.items new.queue.items c.go_through.result c.in-Call.argument.value c.deref-in-Call.result.now (ap parts_of c.in-Call.is) c.deref-in-Call.ensures
    (names_place tb c.args.code.now old.marks.items c.in-Call.place (ap (own_place tb) c.in-Call.is) c.in_ok-note-in-Call.ensures.marked) tt c.go_through.ensures.grows c.go_through.ensures.marked

pub go_through-returns-in_ok-note_name-in-CallNamed-clause-marked : goal.go_through-returns-in_ok-note_name-in-CallNamed-clause-marked
go_through-returns-in_ok-note_name-in-CallNamed-clause-marked t c =
    let tb = table_in c.args.tops.now in
    let old = c.note_name-in-CallNamed.new.self in
    let new = c.go_through-in-CallNamed.new.self in
    last_part tb c.args.code.now [] old.marks.items new.marks.items old.queue.items new.queue.items c.go_through-in-CallNamed.result c.in-CallNamed.argument.value c.deref-in-CallNamed-2.result.now (ap parts_of c.in-CallNamed.is) c.deref-in-CallNamed-2.ensures
    (λ k e h. c.in_ok-note_name-in-CallNamed.ensures.marked k (ap (place_of (names_of tb)) c.deref-in-CallNamed.ensures.value ∙ sym (ap (own_place tb) c.in-CallNamed.is) ∙ e) h) tt c.go_through-in-CallNamed.ensures.grows c.go_through-in-CallNamed.ensures.marked

pub go_through-returns-in_ok-go_through-in-Pair-clause-marked : goal.go_through-returns-in_ok-go_through-in-Pair-clause-marked
go_through-returns-in_ok-go_through-in-Pair-clause-marked t c =
    let tb = table_in c.args.tops.now in
    let old = c.go_through-in-Pair.new.self in
    let new = c.go_through-in-Pair-2.new.self in
    last_part tb c.args.code.now (c.in-Pair.left.value ∷ []) old.marks.items new.marks.items old.queue.items new.queue.items c.go_through-in-Pair-2.result c.in-Pair.right.value c.deref-in-Pair-2.result.now (ap parts_of c.in-Pair.is) c.deref-in-Pair-2.ensures
    (names_none tb c.args.code.now old.marks.items (ap (own_place tb) c.in-Pair.is)) (subst (Marks tb old.marks.items) c.deref-in-Pair.ensures c.in_ok-go_through-in-Pair.ensures.marked, tt) c.go_through-in-Pair-2.ensures.grows c.go_through-in-Pair-2.ensures.marked

pub go_through-returns-in_ok-go_through-in-ApplyTwo-clause-marked : goal.go_through-returns-in_ok-go_through-in-ApplyTwo-clause-marked
go_through-returns-in_ok-go_through-in-ApplyTwo-clause-marked t c =
    let tb = table_in c.args.tops.now in
    let old = c.go_through-in-ApplyTwo.new.self in
    let new = c.go_through-in-ApplyTwo-2.new.self in
    last_part tb c.args.code.now (c.in-ApplyTwo.left.value ∷ []) old.marks.items new.marks.items old.queue.items new.queue.items c.go_through-in-ApplyTwo-2.result c.in-ApplyTwo.right.value c.deref-in-ApplyTwo-2.result.now (ap parts_of c.in-ApplyTwo.is) c.deref-in-ApplyTwo-2.ensures
    (names_none tb c.args.code.now old.marks.items (ap (own_place tb) c.in-ApplyTwo.is)) (subst (Marks tb old.marks.items) c.deref-in-ApplyTwo.ensures c.in_ok-go_through-in-ApplyTwo.ensures.marked, tt) c.go_through-in-ApplyTwo-2.ensures.grows c.go_through-in-ApplyTwo-2.ensures.marked

pub go_through-returns-in_ok-go_through-in-ApplyThree-2-clause-marked : goal.go_through-returns-in_ok-go_through-in-ApplyThree-2-clause-marked
go_through-returns-in_ok-go_through-in-ApplyThree-2-clause-marked t c =
    let tb = table_in c.args.tops.now in
    let first = c.go_through-in-ApplyThree.new.self in
    let old = c.go_through-in-ApplyThree-2.new.self in
    let new = c.go_through-in-ApplyThree-3.new.self in
    let before = marks_kept tb first.marks.items old.marks.items first.queue.items old.queue.items c.in-ApplyThree.first.value c.in_ok-go_through-in-ApplyThree-2.ensures.grows (subst (Marks tb first.marks.items) c.deref-in-ApplyThree.ensures c.in_ok-go_through-in-ApplyThree.ensures.marked) in
    last_part tb c.args.code.now (c.in-ApplyThree.first.value ∷ c.in-ApplyThree.second.value ∷ []) old.marks.items new.marks.items old.queue.items new.queue.items c.go_through-in-ApplyThree-3.result c.in-ApplyThree.third.value c.deref-in-ApplyThree-3.result.now (ap parts_of c.in-ApplyThree.is) c.deref-in-ApplyThree-3.ensures
    (names_none tb c.args.code.now old.marks.items (ap (own_place tb) c.in-ApplyThree.is)) (before, (subst (Marks tb old.marks.items) c.deref-in-ApplyThree-2.ensures c.in_ok-go_through-in-ApplyThree-2.ensures.marked, tt)) c.go_through-in-ApplyThree-3.ensures.grows c.go_through-in-ApplyThree-3.ensures.marked

pub go_through-returns-in_ok-go_through-in-Choice-2-clause-marked : goal.go_through-returns-in_ok-go_through-in-Choice-2-clause-marked
go_through-returns-in_ok-go_through-in-Choice-2-clause-marked t c =
    let tb = table_in c.args.tops.now in
    let first = c.go_through-in-Choice.new.self in
    let old = c.go_through-in-Choice-2.new.self in
    let new = c.go_through-in-Choice-3.new.self in
    let before = marks_kept tb first.marks.items old.marks.items first.queue.items old.queue.items c.in-Choice.test.value c.in_ok-go_through-in-Choice-2.ensures.grows (subst (Marks tb first.marks.items) c.deref-in-Choice.ensures c.in_ok-go_through-in-Choice.ensures.marked) in
    last_part tb c.args.code.now (c.in-Choice.test.value ∷ c.in-Choice.yes.value ∷ []) old.marks.items new.marks.items old.queue.items new.queue.items c.go_through-in-Choice-3.result c.in-Choice.no.value c.deref-in-Choice-3.result.now (ap parts_of c.in-Choice.is) c.deref-in-Choice-3.ensures
    (names_none tb c.args.code.now old.marks.items (ap (own_place tb) c.in-Choice.is)) (before, (subst (Marks tb old.marks.items) c.deref-in-Choice-2.ensures c.in_ok-go_through-in-Choice-2.ensures.marked, tt)) c.go_through-in-Choice-3.ensures.grows c.go_through-in-Choice-3.ensures.marked

pub go_through-returns-in-Sequence-clause-marked : goal.go_through-returns-in-Sequence-clause-marked
go_through-returns-in-Sequence-clause-marked t c =
    let tb = table_in c.args.tops.now in
    all_parts tb c.args.code.now c.deref-in-Sequence.result.now c.go_through_all.new.self.marks.items c.go_through_all.result (ap (own_place tb) c.in-Sequence.is)
    (c.deref-in-Sequence.ensures.value ∙ sym (ap parts_of c.in-Sequence.is ∙ parts-Sequence c.in-Sequence.span c.in-Sequence.parts)) c.go_through_all.ensures.marked

pub go_through-returns-in_ok-go_through_all-in-Let-clause-marked : goal.go_through-returns-in_ok-go_through_all-in-Let-clause-marked
go_through-returns-in_ok-go_through_all-in-Let-clause-marked t c =
    let tb = table_in c.args.tops.now in
    let old = c.go_through_all-in-Let.new.self in
    let new = c.go_through-in-Let.new.self in
    last_part tb c.args.code.now c.in-Let.bindings.items old.marks.items new.marks.items old.queue.items new.queue.items c.go_through-in-Let.result c.in-Let.body.value c.deref-in-Let-2.result.now (ap parts_of c.in-Let.is ∙ parts-Let c.in-Let.span c.in-Let.bindings c.in-Let.body) c.deref-in-Let-2.ensures
    (names_none tb c.args.code.now old.marks.items (ap (own_place tb) c.in-Let.is)) (subst (AllByRecursion (Marks tb old.marks.items)) c.deref-in-Let.ensures.value c.in_ok-go_through_all-in-Let.ensures.marked) c.go_through-in-Let.ensures.grows c.go_through-in-Let.ensures.marked

pub go_through-returns-in_ok-go_through_all-in-Each-clause-marked : goal.go_through-returns-in_ok-go_through_all-in-Each-clause-marked
go_through-returns-in_ok-go_through_all-in-Each-clause-marked t c =
    let tb = table_in c.args.tops.now in
    let old = c.go_through_all-in-Each.new.self in
    let new = c.go_through-in-Each.new.self in
    last_part tb c.args.code.now c.in-Each.sources.items old.marks.items new.marks.items old.queue.items new.queue.items c.go_through-in-Each.result c.in-Each.body.value c.deref-in-Each-2.result.now (ap parts_of c.in-Each.is ∙ parts-Each c.in-Each.span c.in-Each.sources c.in-Each.body) c.deref-in-Each-2.ensures
    (names_none tb c.args.code.now old.marks.items (ap (own_place tb) c.in-Each.is)) (subst (AllByRecursion (Marks tb old.marks.items)) c.deref-in-Each.ensures.value c.in_ok-go_through_all-in-Each.ensures.marked) c.go_through-in-Each.ensures.grows c.go_through-in-Each.ensures.marked

pub go_through-returns-in_ok-go_through-in-FilteredEach-clause-marked : goal.go_through-returns-in_ok-go_through-in-FilteredEach-clause-marked
go_through-returns-in_ok-go_through-in-FilteredEach-clause-marked t c =
    let tb = table_in c.args.tops.now in
    let first = c.go_through_all-in-FilteredEach.new.self in
    let old = c.go_through-in-FilteredEach.new.self in
    let new = c.go_through-in-FilteredEach-2.new.self in
    let sources = c.in-FilteredEach.sources.items in
    let body = c.in-FilteredEach.body.value in
    let before = all_kept tb first.marks.items old.marks.items first.queue.items old.queue.items sources c.in_ok-go_through-in-FilteredEach.ensures.grows (subst (AllByRecursion (Marks tb first.marks.items)) c.deref-in-FilteredEach.ensures.value c.in_ok-go_through_all-in-FilteredEach.ensures.marked) in
    last_part tb c.args.code.now (sources ++ body ∷ []) old.marks.items new.marks.items old.queue.items new.queue.items c.go_through-in-FilteredEach-2.result c.in-FilteredEach.filter.value c.deref-in-FilteredEach-3.result.now
    (ap parts_of c.in-FilteredEach.is ∙ parts-FilteredEach c.in-FilteredEach.span c.in-FilteredEach.sources c.in-FilteredEach.body c.in-FilteredEach.filter ∙ sym (append_assoc sources (body ∷ []) (c.in-FilteredEach.filter.value ∷ []))) c.deref-in-FilteredEach-3.ensures
    (names_none tb c.args.code.now old.marks.items (ap (own_place tb) c.in-FilteredEach.is))
    (all_both (Marks tb old.marks.items) sources (body ∷ []) before (subst (Marks tb old.marks.items) c.deref-in-FilteredEach-2.ensures c.in_ok-go_through-in-FilteredEach.ensures.marked, tt)) c.go_through-in-FilteredEach-2.ensures.grows c.go_through-in-FilteredEach-2.ensures.marked

pub go_through_all-loop-code-init : goal.go_through_all-loop-code-init
go_through_all-loop-code-init t c = record { grows = grows_none c.args.self.now.marks.items c.args.self.now.queue.items; marked = tt }

pub go_through_all-loop-code-preserved : goal.go_through_all-loop-code-preserved
go_through_all-loop-code-preserved t c =
    let start = c.args.self.now in
    let old = c.loop-code.self in
    let new = c.go_through.new.self in
    record {
      grows = grows_then start.marks.items old.marks.items new.marks.items start.queue.items old.queue.items new.queue.items c.loop-code.invariant.grows c.in_ok-go_through.ensures.grows;
      marked =
          one_more (table_in c.args.tops.now) c.args.codes.now c.loop-code.code-index c.code-item.result old.marks.items new.marks.items old.queue.items new.queue.items c.loop-code-test.true c.code-item.is c.in_ok-go_through.ensures.grows c.in_ok-go_through.ensures.marked
          c.loop-code.invariant.marked;
    }
