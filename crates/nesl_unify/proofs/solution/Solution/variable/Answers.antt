use Rattle.std.proofs.Common.{◌≡◌, ◌<◌, ◌≤◌, List, length, sym, ◌∙◌, subst, arith}
use Rattle.std.proofs.Math.Logic.{∥∥₁_elim}
use base.Stored.{Coded-set}
use Rattle.std.proofs.lemmas.Result.{IfOk-weaker}
use Rattle.nesl_types_shared.specs.Term.{Term, variable, nodes}
use Rattle.nesl_types_shared.specs.Codes.{term_code}
use Rattle.nesl_unify_graph.specs.declared.node.Node.{Node}
use Rattle.nesl_unify_graph.specs.Readings.{Reads}
use Rattle.nesl_unify.proofs.Solutions.{type_of_variable, type_below, type_past, read_is}
use Rattle.nesl_unify.proofs.solution.Solution.variable.Goals as goal

pub returns-then-place-self : goal.returns-then-place-self
returns-then-place-self c =
    let a = c.args.self.now in
    let i = a.instances in
    let ns = a.nodes.items in
    let v = c.args.variable in
    let inside : v < length ns = omega (arith, a.within, c.if-place-self.true) in
    IfOk-weaker c.read.result (λ t. (u : Term) → Reads i c.as_slice.result.now v u → nodes u ≤ 4096 → t ≡ u) (λ t. t ≡ type_of_variable i a.count ns v)
    (λ t h.
    let g = subst (λ (l : List Node). (u : Term) → Reads i l v u → nodes u ≤ 4096 → t ≡ u) c.as_slice.ensures.value h in
    ∥∥₁_elim a.read (Coded-set term_code _ _) (λ r. read_is i ns v t r inside g ∙ sym (type_below i a.count ns v c.if-place-self.true)))
    c.read.ensures

pub returns-else-place-self : goal.returns-else-place-self
returns-else-place-self c =
    let a = c.args.self.now in
    let v = c.args.variable in
    IfOk-weaker c.variable.result (λ t. t ≡ variable v) (λ t. t ≡ type_of_variable a.instances a.count a.nodes.items v)
    (λ t h. h ∙ sym (type_past a.instances a.count a.nodes.items v c.if-place-self.false)) c.variable.ensures
