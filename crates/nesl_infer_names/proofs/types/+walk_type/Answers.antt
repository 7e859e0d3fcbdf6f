use Rattle.std.proofs.Common.{◌≡◌, ◌∙◌, List, ℕ, Bool, sym, ap, subst}
use Rattle.std.specs.Option.{is_some}
use Rattle.nesl_syntax_tree.specs.declared.tree.TypeExp.{TypeExp}
use Rattle.nesl_syntax_tree.specs.declared.tree.TypeNode.{TypeNode}
use Rattle.nesl_syntax_tree.specs.Views.{type_shape, type_tree}
use Rattle.nesl_infer_names.specs.Firsts.{first, earlier}
use Rattle.nesl_infer_names.specs.Names.{span_unless_known, datatype_in, unknown_types, unknown_types_in}
use Rattle.nesl_infer_names.proofs.Firsts.{joined, unchanged}
use Rattle.nesl_infer_names.proofs.types.+walk_type.Goals as goal

pub returns-in-Name : goal.returns-in-Name
returns-in-Name g t c =
    let ds = datatype_in c.args.context.now in
    let f = c.args.found.now in
    subst (λ (k : TypeNode). c.note.new.found ≡ earlier f (first (unknown_types_in ds (type_shape k)))) (sym c.in-Name.is)
    (c.note.ensures ∙ ap (λ (b : Bool). earlier f (first (span_unless_known b c.in-Name.span))) (c.is_datatype.ensures ∙ ap (λ (x : List ℕ). is_some (ds x)) c.as_slice.ensures.value))

pub returns-in-Sequence : goal.returns-in-Sequence
returns-in-Sequence g t c =
    let ds = datatype_in c.args.context.now in
    let f = c.args.found.now in
    subst (λ (k : TypeNode). c.walk_type.new.found ≡ earlier f (first (unknown_types_in ds (type_shape k)))) (sym c.in-Sequence.is)
    (c.walk_type.ensures ∙ ap (λ (x : TypeExp). earlier f (first (unknown_types ds (type_tree x)))) c.deref.ensures)

pub returns-in-Pair : goal.returns-in-Pair
returns-in-Pair g t c =
    let ds = datatype_in c.args.context.now in
    let f = c.args.found.now in
    let h = c.walk_type-in-Pair.new.found in
    let a = c.in-Pair.first.value in
    let b = c.in-Pair.second.value in
    subst (λ (k : TypeNode). c.walk_type-in-Pair-2.new.found ≡ earlier f (first (unknown_types_in ds (type_shape k)))) (sym c.in-Pair.is)
    (joined f h c.walk_type-in-Pair-2.new.found (unknown_types ds (type_tree a)) (unknown_types ds (type_tree b))
    (c.walk_type-in-Pair.ensures ∙ ap (λ (x : TypeExp). earlier f (first (unknown_types ds (type_tree x)))) c.deref-in-Pair.ensures)
    (c.walk_type-in-Pair-2.ensures ∙ ap (λ (x : TypeExp). earlier h (first (unknown_types ds (type_tree x)))) c.deref-in-Pair-2.ensures))

pub returns-in-Int : goal.returns-in-Int
returns-in-Int g t c =
    let f = c.args.found.now in
    subst (λ (k : TypeNode). f ≡ earlier f (first (unknown_types_in (datatype_in c.args.context.now) (type_shape k)))) (sym c.in-Int.is) (unchanged f)

pub returns-in-Bool : goal.returns-in-Bool
returns-in-Bool g t c =
    let f = c.args.found.now in
    subst (λ (k : TypeNode). f ≡ earlier f (first (unknown_types_in (datatype_in c.args.context.now) (type_shape k)))) (sym c.in-Bool.is) (unchanged f)

pub returns-in-Char : goal.returns-in-Char
returns-in-Char g t c =
    let f = c.args.found.now in
    subst (λ (k : TypeNode). f ≡ earlier f (first (unknown_types_in (datatype_in c.args.context.now) (type_shape k)))) (sym c.in-Char.is) (unchanged f)
