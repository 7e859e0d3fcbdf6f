use Rattle.std.proofs.Common.{◌≡◌, ◌∙◌, sym, ap, map, [], None}
use Rattle.nesl_cost_meaning.specs.Cost.{charges, path}
use Rattle.nesl_cost_rows.specs.Written.{note_of}
use Rattle.nesl_cost_rows.specs.Readings.{State, state, state_of, read_on}
use Rattle.nesl_cost_rows.proofs.ReadBack.{nothing_read, no_note, reads_cost}
use Rattle.nesl_cost_rows.proofs.reading.charges_of.Goals as goal

pub returns-clause-all : goal.returns-clause-all
returns-clause-all c =
    λ d e.
    let st = state_of c.loop-mark.reading in
    let end : read_on [] st ≡ read_on (map note_of c.args.marks.now) nothing_read =
    sym (no_note c.args.marks.now c.loop-mark.mark-index st c.loop-mark-test.false) ∙ c.loop-mark.invariant in
    let f : st ≡ state None [] (charges None d) (path None d) [] = end ∙ ap (λ l. read_on l nothing_read) e ∙ reads_cost d in
    ap (λ (s : State). s.all) f

pub returns-clause-path : goal.returns-clause-path
returns-clause-path c =
    λ d e.
    let st = state_of c.loop-mark.reading in
    let end : read_on [] st ≡ read_on (map note_of c.args.marks.now) nothing_read =
    sym (no_note c.args.marks.now c.loop-mark.mark-index st c.loop-mark-test.false) ∙ c.loop-mark.invariant in
    let f : st ≡ state None [] (charges None d) (path None d) [] = end ∙ ap (λ l. read_on l nothing_read) e ∙ reads_cost d in
    ap (λ (s : State). s.path) f
