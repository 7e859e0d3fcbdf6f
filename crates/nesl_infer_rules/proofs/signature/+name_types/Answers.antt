use Rattle.std.proofs.Common.{sym, ap, subst, refl}
use Rattle.nesl_syntax_tree.specs.declared.tree.TypeExp.{TypeExp}
use Rattle.nesl_syntax_tree.specs.declared.tree.TypeNode.{TypeNode}
use Rattle.nesl_syntax_tree.specs.Views.{type_shape, type_tree}
use Rattle.nesl_syntax_tree.specs.Trees.{written}
use Rattle.nesl_infer_rules.specs.declared.state.Local.{Local}
use Rattle.nesl_infer_rules.specs.declared.state.Key.TheVariants.{Name}
use Rattle.nesl_infer_rules.specs.Typing.{name}
use Rattle.nesl_infer_rules.specs.Signatures.{FreeNames}
use Rattle.nesl_infer_rules.proofs.Signatures.{NamesIn, no_names, one_name, two_names}
use Rattle.nesl_infer_rules.proofs.signature.+name_types.Goals as goal

pub returns-in-Int : goal.returns-in-Int
returns-in-Int t c =
    let ls = c.args.names.now in
    subst (λ (k : TypeNode). NamesIn c.args.state.now c.args.state.now ls ls (λ ns. FreeNames (written c.args.written.now.span (type_shape k)) ns)) (sym c.in-Int.is) (no_names ls)

pub returns-in-Bool : goal.returns-in-Bool
returns-in-Bool t c =
    let ls = c.args.names.now in
    subst (λ (k : TypeNode). NamesIn c.args.state.now c.args.state.now ls ls (λ ns. FreeNames (written c.args.written.now.span (type_shape k)) ns)) (sym c.in-Bool.is) (no_names ls)

pub returns-in-Char : goal.returns-in-Char
returns-in-Char t c =
    let ls = c.args.names.now in
    subst (λ (k : TypeNode). NamesIn c.args.state.now c.args.state.now ls ls (λ ns. FreeNames (written c.args.written.now.span (type_shape k)) ns)) (sym c.in-Char.is) (no_names ls)

pub returns-in_ok-push-in-Name : goal.returns-in_ok-push-in-Name
returns-in_ok-push-in-Name t c =
    let ls = c.args.names.now in
    let v = c.in_ok-variable-in-Name.variable in
    let l : Local = record { key = Name c.as_slice.result; variable = v } in
    subst (λ (k : TypeNode). NamesIn c.args.state.now c.add_any.new.self ls c.push.new.self (λ ns. FreeNames (written c.args.written.now.span (type_shape k)) ns)) (sym c.in-Name.is)
    (one_name ls c.push.new.self c.in-Name.name.letters.items v l c.in_ok-push-in-Name.ensures
    (ap name c.as_slice.ensures.value) refl c.in_ok-variable-in-Name.ensures.below c.in_ok-variable-in-Name.ensures.gives)

pub returns-in_ok-name_types-in-Sequence : goal.returns-in_ok-name_types-in-Sequence
returns-in_ok-name_types-in-Sequence t c =
    let ls = c.args.names.now in
    let A = c.args.state.now in
    let B = c.name_types.new.state in
    let ms = c.name_types.new.names in
    subst (λ (k : TypeNode). NamesIn A B ls ms (λ ns. FreeNames (written c.args.written.now.span (type_shape k)) ns)) (sym c.in-Sequence.is)
    (subst (λ (e : TypeExp). NamesIn A B ls ms (λ ns. FreeNames (type_tree e) ns)) c.deref.ensures c.in_ok-name_types-in-Sequence.ensures)

pub returns-in_ok-name_types-in-Pair-2 : goal.returns-in_ok-name_types-in-Pair-2
returns-in_ok-name_types-in-Pair-2 t c =
    let ls = c.args.names.now in
    let A = c.args.state.now in
    let B = c.name_types-in-Pair.new.state in
    let C = c.name_types-in-Pair-2.new.state in
    let ms = c.name_types-in-Pair.new.names in
    let os = c.name_types-in-Pair-2.new.names in
    let a = c.in-Pair.first.value in
    let b = c.in-Pair.second.value in
    subst (λ (k : TypeNode). NamesIn A C ls os (λ ns. FreeNames (written c.args.written.now.span (type_shape k)) ns)) (sym c.in-Pair.is)
    (two_names (FreeNames (type_tree a)) (FreeNames (type_tree b)) ls ms os
    (subst (λ (e : TypeExp). NamesIn A B ls ms (λ ns. FreeNames (type_tree e) ns)) c.deref-in-Pair.ensures c.in_ok-name_types-in-Pair.ensures)
    (subst (λ (e : TypeExp). NamesIn B C ms os (λ ns. FreeNames (type_tree e) ns)) c.deref-in-Pair-2.ensures c.in_ok-name_types-in-Pair-2.ensures))
