use Rattle.std.proofs.Common.{◌≡◌, ◌∙◌, List, ℕ, Bool, sym, ap, subst}
use Rattle.std.specs.Option.{is_some}
use Rattle.nesl_syntax_tree.specs.declared.tree.Pattern.{Pattern}
use Rattle.nesl_syntax_tree.specs.declared.tree.PatternNode.{PatternNode}
use Rattle.nesl_syntax_tree.specs.Views.{pattern_shape, pattern_tree}
use Rattle.nesl_infer_names.specs.Firsts.{first, earlier}
use Rattle.nesl_infer_names.specs.Names.{span_unless_known, datatype_in, unknown_records, unknown_records_in}
use Rattle.nesl_infer_names.proofs.Firsts.{joined, unchanged}
use Rattle.nesl_infer_names.proofs.patterns.+walk_pattern.Goals as goal

pub returns-in-Name : goal.returns-in-Name
returns-in-Name g t c =
    let f = c.args.found.now in
    subst (λ (k : PatternNode). f ≡ earlier f (first (unknown_records_in (datatype_in c.args.context.now) c.args.pattern.now.span (pattern_shape k)))) (sym c.in-Name.is) (unchanged f)

pub returns-in-Pair : goal.returns-in-Pair
returns-in-Pair g t c =
    let ds = datatype_in c.args.context.now in
    let f = c.args.found.now in
    let h = c.walk_pattern.new.found in
    let a = c.in-Pair.first.value in
    let b = c.in-Pair.second.value in
    subst (λ (k : PatternNode). c.walk_pattern-in-Pair.new.found ≡ earlier f (first (unknown_records_in ds c.args.pattern.now.span (pattern_shape k)))) (sym c.in-Pair.is)
    (joined f h c.walk_pattern-in-Pair.new.found (unknown_records ds (pattern_tree a)) (unknown_records ds (pattern_tree b))
    (c.walk_pattern.ensures ∙ ap (λ (x : Pattern). earlier f (first (unknown_records ds (pattern_tree x)))) c.deref.ensures)
    (c.walk_pattern-in-Pair.ensures ∙ ap (λ (x : Pattern). earlier h (first (unknown_records ds (pattern_tree x)))) c.deref-in-Pair.ensures))

pub returns-in-Record : goal.returns-in-Record
returns-in-Record g t c =
    let ds = datatype_in c.args.context.now in
    let f = c.args.found.now in
    let h = c.note.new.found in
    let s = c.args.pattern.now.span in
    let p = c.in-Record.held.value in
    subst (λ (k : PatternNode). c.walk_pattern-in-Record.new.found ≡ earlier f (first (unknown_records_in ds s (pattern_shape k)))) (sym c.in-Record.is)
    (joined f h c.walk_pattern-in-Record.new.found (span_unless_known (is_some (ds c.in-Record.name.letters.items)) s) (unknown_records ds (pattern_tree p))
    (c.note.ensures ∙ ap (λ (b : Bool). earlier f (first (span_unless_known b s))) (c.is_datatype.ensures ∙ ap (λ (x : List ℕ). is_some (ds x)) c.as_slice.ensures.value))
    (c.walk_pattern-in-Record.ensures ∙ ap (λ (x : Pattern). earlier h (first (unknown_records ds (pattern_tree x)))) c.deref-in-Record.ensures))
