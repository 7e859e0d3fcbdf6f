use Rattle.std.proofs.Common.{◌≡◌, ℕ, ◌≤◌, subst, sym}
use Rattle.std.proofs.lemmas.Result.{IfOk-weaker}
use Rattle.nesl_types_shared.specs.Term.{Term, int, nodes}
use Rattle.nesl_unify_graph.specs.Readings.{Reads}
use Rattle.nesl_unify_graph.specs.Forms.{IsLarger}
use Rattle.nesl_unify_graph.specs.Outlines.{FitsOutline, IsOutlineOf}
use Rattle.nesl_unify_graph.proofs.Outlines.{reads_same, no_larger, at_some, at_none}
use Rattle.nesl_unify_graph.proofs.read.read.Goals as goal

pub returns-in-Some : goal.returns-in-Some
returns-in-Some c =
    let i = c.args.instances.now in
    let ns = c.args.nodes.now in
    let p = c.args.place in
    let o : IsOutlineOf i ns p c.in-Some.shapes.items = at_some (λ shapes. IsOutlineOf i ns p shapes.items) c.in_ok-shapes.field-0 c.in-Some.shapes c.in-Some.is c.in_ok-shapes.ensures.some in
    IfOk-weaker c.outline_type.result (λ t. (g : ℕ → Term) × (FitsOutline g c.as_slice.result.now × (t ≡ g 0))) (λ t. (u : Term) → Reads i ns p u → nodes u ≤ 4096 → t ≡ u)
    (λ t h u r l. reads_same i ns p t u (subst (Reads i ns p) (sym h.1.1) (o.reads h.0 (subst (FitsOutline h.0) c.as_slice.ensures.value h.1.0))) r) c.outline_type.ensures

pub returns-in-None : goal.returns-in-None
returns-in-None c =
    let i = c.args.instances.now in
    let ns = c.args.nodes.now in
    let p = c.args.place in
    let large : IsLarger i ns 4096 p = at_none (IsLarger i ns 4096 p) c.in_ok-shapes.field-0 c.in-None.is c.in_ok-shapes.ensures.none in
    IfOk-weaker c.int.result (λ t. t ≡ int) (λ t. (u : Term) → Reads i ns p u → nodes u ≤ 4096 → t ≡ u)
    (λ t h u r l. absurd (no_larger i ns p u large r l)) c.int.ensures
