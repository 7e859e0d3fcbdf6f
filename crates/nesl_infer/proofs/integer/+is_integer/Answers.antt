use Rattle.std.proofs.Common.{sym, subst}
use Rattle.nesl_types_shared.specs.Term.{int}
use Rattle.nesl_syntax_tree.specs.declared.tree.Exp.{Exp}
use Rattle.nesl_syntax_tree.specs.declared.tree.Node.{Node}
use Rattle.nesl_syntax_tree.specs.Trees.{node}
use Rattle.nesl_syntax_tree.specs.Views.{shape_of, tree_of}
use Rattle.nesl_infer.specs.Only.{IsOnlyType}
use Rattle.nesl_infer.proofs.Integers.{only_infix}
use Rattle.nesl_infer.proofs.integer.+is_integer.Goals as goal

pub returns-then-is_integer : goal.returns-then-is_integer
returns-then-is_integer g t c = λ h.
    let context = c.args.context.now in
    let e = c.args.exp.now in
    let a = c.in-Infix.first.value in
    let b = c.in-Infix.second.value in
    let left = subst (λ (x : Exp). IsOnlyType context (tree_of x) int) c.deref.ensures (c.is_integer.ensures c.if-is_integer.true) in
    let right = subst (λ (x : Exp). IsOnlyType context (tree_of x) int) c.deref-then-is_integer.ensures (c.is_integer-then-is_integer.ensures h) in
    subst (λ (k : Node). IsOnlyType context (node e.span (shape_of k)) int) (sym c.in-Infix.is)
    (only_infix context e.span c.in-Infix.operator (tree_of a) (tree_of b) (c.is_arithmetic.ensures c.if-is_arithmetic.true) left right)
