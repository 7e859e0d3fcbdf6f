use Rattle.std.proofs.Common.{◌∙◌, List, [], ◌∷◌, ◌++◌, ℕ, suc, subst, sym, ap, arith, take, drop, true, append_assoc, length-append}
use Rattle.std.proofs.lemmas.List.{length-take}
use Rattle.nesl_line.specs.Lines.{WholeLines}
use Rattle.nesl_line.specs.Tally.{flushed_by}
use Rattle.nesl_line.specs.Steps.{Goes, Halts, Stops}
use Rattle.nesl_line.proofs.Bytes.{regrouped, taken_line, taken_all}
use Rattle.nesl_line.proofs.Talks.{progress_more, halted}
use Rattle.nesl_line.proofs.Tallies.{flushed_more}
use Rattle.nesl_line.proofs.talk.Talk.take_in.Goals as goal

pub returns-then-not-end_line-clause-talk : goal.returns-then-not-end_line-clause-talk
returns-then-not-end_line-clause-talk g c = λ first start held read p.
    let rest = c.loop-place.rest.now in
    let i = c.in-Some.place in
    let t = c.loop-place.invariant.talk in
    let s = c.in-Some.ensures.some in
    let P : List ℕ → Type 0 = λ x. Stops WholeLines (g.H.Hearer.heard first start c.end_line.new.hearer c.end_line.new.world) c.end_line.new.self x held (g.W.Sink.held c.end_line.new.writer) in
    subst P (taken_all read c.args.bytes.now t.0 rest i t.1 s.0 s.1)
    (c.if-not-end_line.ensures.talk first start held ((read ++ t.0) ++ take i rest)
    (progress_more (g.H.Hearer.heard first start c.loop-place.hearer c.loop-place.world) (read ++ t.0) (take i rest) c.loop-place.self.line c.add.new.self held _ c.loop-place.self.lines (t.3 first start held read p) s.2 c.add.ensures) (drop (suc i) rest))

pub returns-then-is_over-clause-talk : goal.returns-then-is_over-clause-talk
returns-then-is_over-clause-talk g c = λ first start held read p.
    let rest = c.loop-place.rest.now in
    let i = c.in-Some.place in
    let t = c.loop-place.invariant.talk in
    let s = c.in-Some.ensures.some in
    let so_far = (read ++ t.0) ++ take i rest in
    let P : List ℕ → Type 0 = λ x. Halts (g.H.Hearer.heard first start c.end_line.new.hearer c.end_line.new.world) c.end_line.new.self x held (g.W.Sink.held c.end_line.new.writer) in
    subst P (append_assoc so_far (10 ∷ []) (drop (suc i) rest) ∙ taken_all read c.args.bytes.now t.0 rest i t.1 s.0 s.1)
    (halted (g.H.Hearer.heard first start c.end_line.new.hearer c.end_line.new.world) (so_far ++ 10 ∷ []) (drop (suc i) rest) c.end_line.new.self.line held _ c.end_line.new.self.lines
    (c.if-not-end_line.ensures.talk first start held so_far
    (progress_more (g.H.Hearer.heard first start c.loop-place.hearer c.loop-place.world) (read ++ t.0) (take i rest) c.loop-place.self.line c.add.new.self held _ c.loop-place.self.lines (t.3 first start held read p) s.2 c.add.ensures)))

pub returns-then-is_over-clause-tally : goal.returns-then-is_over-clause-tally
returns-then-is_over-clause-tally g c = λ start e.
    flushed_more true c.loop-place.self.lines 1 start (g.W.Sink.tally c.loop-place.writer) _ (c.loop-place.invariant.tally start e) c.if-not-end_line.ensures.tally ∙ ap (λ n. flushed_by n start) (sym c.end_line.ensures.lines)

pub loop-place-preserved : goal.loop-place-preserved
loop-place-preserved g c =
    let rest = c.loop-place.rest.now in
    let i = c.in-Some.place in
    let t = c.loop-place.invariant.talk in
    let s = c.in-Some.ensures.some in
    record {
      talk = (
        t.0 ++ (take i rest ++ 10 ∷ []),
        taken_line c.args.bytes.now t.0 rest i t.1 s.0 s.1,
        omega (arith, t.2, c.end_line.ensures.lines, s.0, length-append t.0 (take i rest ++ 10 ∷ []), length-append (take i rest) (10 ∷ []), length-take i rest),
        λ first start held read p.
            let P : List ℕ → Type 0 = λ x. Goes (g.H.Hearer.heard first start c.end_line.new.hearer c.end_line.new.world) c.end_line.new.self x held (g.W.Sink.held c.end_line.new.writer) in
            subst P (regrouped read t.0 (take i rest) (10 ∷ []))
            (c.if-not-end_line.ensures.talk first start held ((read ++ t.0) ++ take i rest)
            (progress_more (g.H.Hearer.heard first start c.loop-place.hearer c.loop-place.world) (read ++ t.0) (take i rest) c.loop-place.self.line c.add.new.self held _ c.loop-place.self.lines (t.3 first start held read p) s.2 c.add.ensures)),
      );
      tally = λ start e. flushed_more true c.loop-place.self.lines 1 start (g.W.Sink.tally c.loop-place.writer) _ (c.loop-place.invariant.tally start e) c.if-not-end_line.ensures.tally ∙ ap (λ n. flushed_by n start) (sym c.end_line.ensures.lines);
      ready = c.end_line.ensures.ready (sym c.is_over.ensures ∙ c.if-is_over.false);
    }

pub returns-clause-talk : goal.returns-clause-talk
returns-clause-talk g c = λ first start held read p.
    let rest = c.loop-place.rest.now in
    let t = c.loop-place.invariant.talk in
    let P : List ℕ → Type 0 = λ x. Goes (g.H.Hearer.heard first start c.loop-place.hearer c.loop-place.world) (record c.loop-place.self { line = c.add-2.new.self }) x held (g.W.Sink.held c.loop-place.writer) in
    subst P (append_assoc read t.0 rest ∙ ap (λ x. read ++ x) (sym t.1))
    (progress_more (g.H.Hearer.heard first start c.loop-place.hearer c.loop-place.world) (read ++ t.0) rest c.loop-place.self.line c.add-2.new.self held _ c.loop-place.self.lines (t.3 first start held read p) c.in_default.ensures.none c.add-2.ensures)
