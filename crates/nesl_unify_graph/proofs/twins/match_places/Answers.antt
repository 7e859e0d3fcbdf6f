use Rattle.std.proofs.Common.{◌≡◌, ◌<◌, ◌∙◌, length, sym, ap, subst, arith, ◌+◌}
use Rattle.std.specs.Prelude.{List}
use Rattle.nesl_unify_graph.specs.declared.unify.Pair.{Pair}
use Rattle.nesl_unify_graph.proofs.Matches.{AreMatched, matched_other, matched_variable, matched_all, variable_place}
use Rattle.nesl_unify_graph.proofs.twins.match_places.Goals.{in-Var+in_ok-push, in_default}
use Rattle.nesl_unify_graph.proofs.twins.match_places.Goals as goal

pub place-requires-clause-within : goal.place-requires-clause-within
place-requires-clause-within c =
    let w = c.requires.whole in
    let ts = c.parts-parts.result in
    let inside : c.loop-place.place < length ts = omega (arith, c.len-place-end.ensures.len, c.loop-place-test.true) in
    variable_place c.args.instances.now c.args.twins.first c.loop-place.place c.in-Var.variable ts w.0 c.shape.result (c.parts-parts.ensures ∙ w.1.parts) inside c.shape.ensures.shape c.in-Var.is w.1.first

pub place-requires-in-Var-clause-within : goal.place-requires-in-Var-clause-within
place-requires-in-Var-clause-within c =
    let w = c.requires.whole in
    let ts = c.parts-parts.result in
    let inside : c.loop-place.place < length ts = omega (arith, c.len-place-end.ensures.len, c.loop-place-test.true) in
    variable_place c.args.instances.now c.args.twins.second c.loop-place.place c.in-Var.variable ts w.0 c.shape.result (c.parts-parts.ensures ∙ w.1.parts) inside c.shape.ensures.shape c.in-Var.is w.1.second

pub loop-place-preserved : goal.loop-place-preserved
loop-place-preserved c = λ t whole.
    let i = c.args.instances.now in
    let x = c.args.twins in
    let ts = c.parts-parts.result in
    let n = c.loop-place.place in
    let old = c.args.pending.now.items in
    let mid = c.loop-place.pending.items in
    let inside : n < length ts = omega (arith, c.len-place-end.ensures.len, c.loop-place-test.true) in
    elim c.match-shape.branch [
      | in-Var+in_ok-push w ↦
          let pair : Pair = record { first = w.place.result; second = w.place-in-Var.result } in
          matched_variable i x ts t old mid c.match-shape.pending.items n w.in-Var.variable c.shape.result pair whole (c.parts-parts.ensures ∙ whole.parts) inside c.shape.ensures.shape c.shape.ensures.parts w.in-Var.is
          w.place.ensures w.place-in-Var.ensures (ap (λ v. v.items) w.pending-is ∙ w.in_ok-push.ensures.items) (c.loop-place.invariant t whole)
      | in_default w ↦
          subst (λ (l : List Pair). AreMatched i x ts t old l (n + 1)) (sym (ap (λ v. v.items) w.pending-is))
          (matched_other i x ts t old mid n c.shape.result c.shape.ensures.shape c.shape.ensures.parts w.in_default.not-Var (c.loop-place.invariant t whole))
    ]

pub returns : goal.returns
returns c = λ t whole.
    let ts = c.parts-parts.result in
    let n : c.loop-place.place ≡ length ts = omega (arith, c.len-place-end.ensures.len, c.loop-place-test.false) in
    matched_all c.args.instances.now c.args.twins ts t c.args.pending.now.items c.loop-place.pending.items c.loop-place.place whole (c.parts-parts.ensures ∙ whole.parts) n (c.loop-place.invariant t whole)
