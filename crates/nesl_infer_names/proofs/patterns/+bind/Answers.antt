use Rattle.std.proofs.Common.{◌≡◌, ◌∙◌, ◌++◌, List, ℕ, sym, ap, subst, append_assoc}
use Rattle.nesl_syntax_tree.specs.declared.tree.Pattern.{Pattern}
use Rattle.nesl_syntax_tree.specs.declared.tree.PatternNode.{PatternNode}
use Rattle.nesl_syntax_tree.specs.Views.{pattern_shape, pattern_tree}
use Rattle.nesl_infer_names.specs.Names.{names_bound, names_bound_in}
use Rattle.nesl_infer_names.specs.Scopes.{locals}
use Rattle.nesl_infer_names.proofs.patterns.+bind.Goals as goal

pub returns-in_ok-bind-in-Pair-2 : goal.returns-in_ok-bind-in-Pair-2
returns-in_ok-bind-in-Pair-2 t c =
    let ls = locals c.args.scope.now in
    let a = c.in-Pair.first.value in
    let b = c.in-Pair.second.value in
    let one : locals c.bind.new.scope ≡ names_bound (pattern_tree a) ++ ls = c.in_ok-bind-in-Pair.ensures ∙ ap (λ (x : Pattern). names_bound (pattern_tree x) ++ ls) c.deref.ensures in
    let two : locals c.bind-in-Pair.new.scope ≡ names_bound (pattern_tree b) ++ locals c.bind.new.scope = c.in_ok-bind-in-Pair-2.ensures ∙ ap (λ (x : Pattern). names_bound (pattern_tree x) ++ locals c.bind.new.scope) c.deref-in-Pair.ensures in
    subst (λ (k : PatternNode). locals c.bind-in-Pair.new.scope ≡ names_bound_in (pattern_shape k) ++ ls) (sym c.in-Pair.is)
    (two ∙ ap (λ (ns : List (List ℕ)). names_bound (pattern_tree b) ++ ns) one ∙ sym (append_assoc (names_bound (pattern_tree b)) (names_bound (pattern_tree a)) ls))
