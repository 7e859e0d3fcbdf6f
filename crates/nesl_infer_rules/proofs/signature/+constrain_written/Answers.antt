use Rattle.std.proofs.Common.{◌≡◌, ℕ, List, sym, ap, subst, ◌∙◌}
use Rattle.nesl_types_shared.specs.Term.{Term}
use Rattle.nesl_types_shared.specs.Substitution.{substitute}
use Rattle.nesl_infer_names.specs.Names.{datatype_in}
use Rattle.nesl_syntax_tree.specs.declared.tree.TypeExp.{TypeExp}
use Rattle.nesl_syntax_tree.specs.declared.tree.TypeNode.{TypeNode}
use Rattle.nesl_syntax_tree.specs.Views.{type_shape, type_tree}
use Rattle.nesl_unify.specs.Flat.{flat_type}
use Rattle.nesl_infer_rules.specs.Signatures.{put_in}
use Rattle.nesl_infer_rules.specs.Typing.{LocalTypes, name_in_signature, signed, signed_shape}
use Rattle.nesl_infer_rules.specs.Steps.{Adds, Agrees, count, scope_at}
use Rattle.nesl_infer_rules.proofs.Places.{scope-fixed}
use Rattle.nesl_infer_rules.proofs.Steps.{adds_is}
use Rattle.nesl_infer_rules.proofs.Signatures.{arm_written_sequence, arm_written_pair}
use Rattle.nesl_infer_rules.proofs.signature.+constrain_written.Goals as goal

pub returns-in_ok-equate_flat-in-Int : goal.returns-in_ok-equate_flat-in-Int
returns-in_ok-equate_flat-in-Int g t c =
    let ds = datatype_in c.args.context.now in
    let ks = c.args.names.now in
    subst (λ (k : TypeNode). Adds c.args.state.now c.equate_flat.new.self (λ s of. s c.args.target ≡ signed_shape ds (put_in (scope_at s ks)) (type_shape k))) (sym c.in-Int.is)
    c.in_ok-equate_flat-in-Int.ensures

pub returns-in_ok-equate_flat-in-Bool : goal.returns-in_ok-equate_flat-in-Bool
returns-in_ok-equate_flat-in-Bool g t c =
    let ds = datatype_in c.args.context.now in
    let ks = c.args.names.now in
    subst (λ (k : TypeNode). Adds c.args.state.now c.equate_flat-in-Bool.new.self (λ s of. s c.args.target ≡ signed_shape ds (put_in (scope_at s ks)) (type_shape k))) (sym c.in-Bool.is)
    c.in_ok-equate_flat-in-Bool.ensures

pub returns-in_ok-equate_flat-in-Char : goal.returns-in_ok-equate_flat-in-Char
returns-in_ok-equate_flat-in-Char g t c =
    let ds = datatype_in c.args.context.now in
    let ks = c.args.names.now in
    subst (λ (k : TypeNode). Adds c.args.state.now c.equate_flat-in-Char.new.self (λ s of. s c.args.target ≡ signed_shape ds (put_in (scope_at s ks)) (type_shape k))) (sym c.in-Char.is)
    c.in_ok-equate_flat-in-Char.ensures

pub returns-in_ok-equate_flat-in-Name : goal.returns-in_ok-equate_flat-in-Name
returns-in_ok-equate_flat-in-Name g t c =
    let ds = datatype_in c.args.context.now in
    let ks = c.args.names.now in
    let x = c.in-Name.name.letters.items in
    subst (λ (k : TypeNode). Adds c.args.state.now c.equate_flat-in-Name.new.self (λ s of. s c.args.target ≡ signed_shape ds (put_in (scope_at s ks)) (type_shape k))) (sym c.in-Name.is)
    (adds_is c.args.target (λ s. substitute s (flat_type c.name_type.result)) (λ s. name_in_signature (ds x) (put_in (scope_at s ks) x))
    (λ s. c.name_type.ensures.is s ∙ ap (λ (y : List ℕ). name_in_signature (ds y) (put_in (scope_at s ks) y)) c.as_slice.ensures.value) c.in_ok-equate_flat-in-Name.ensures)

pub returns-in_ok-equate_sequence-in-Sequence : goal.returns-in_ok-equate_sequence-in-Sequence
returns-in_ok-equate_sequence-in-Sequence g t c =
    let A = c.args.state.now in
    let ds = datatype_in c.args.context.now in
    let ks = c.args.names.now in
    let i = c.in_ok-inner-in-Sequence.inner in
    let a = c.in-Sequence.item.value in
    let T : (ℕ → Term) → Term = λ s. signed ds (put_in (scope_at s ks)) (type_tree a) in
    subst (λ (k : TypeNode). Adds A c.equate_sequence.new.self (λ s of. s c.args.target ≡ signed_shape ds (put_in (scope_at s ks)) (type_shape k))) (sym c.in-Sequence.is)
    (arm_written_sequence T c.args.target i c.requires.target
    (λ s z h. ap (λ (sc : LocalTypes). signed ds (put_in sc) (type_tree a)) (scope-fixed (count A) ks c.requires.names s z h))
    c.in_ok-inner-in-Sequence.ensures.gives
    (subst (λ (e : TypeExp). Adds c.add_any.new.self c.constrain_written.new.state (λ s of. s i ≡ signed ds (put_in (scope_at s ks)) (type_tree e))) c.deref.ensures c.in_ok-constrain_written-in-Sequence.ensures)
    c.in_ok-equate_sequence-in-Sequence.ensures)

pub returns-in_ok-equate_pair-in-Pair : goal.returns-in_ok-equate_pair-in-Pair
returns-in_ok-equate_pair-in-Pair g t c =
    let A = c.args.state.now in
    let ds = datatype_in c.args.context.now in
    let ks = c.args.names.now in
    let i = c.in_ok-first-in-Pair.first in
    let j = c.in_ok-second-in-Pair.second in
    let a = c.in-Pair.left.value in
    let b = c.in-Pair.right.value in
    let T : TypeExp → (ℕ → Term) → Term = λ e s. signed ds (put_in (scope_at s ks)) (type_tree e) in
    let moves : (e : TypeExp) (s z : ℕ → Term) → Agrees (count A) s z → T e s ≡ T e z =
    λ e s z h. ap (λ (sc : LocalTypes). signed ds (put_in sc) (type_tree e)) (scope-fixed (count A) ks c.requires.names s z h) in
    subst (λ (k : TypeNode). Adds A c.equate_pair.new.self (λ s of. s c.args.target ≡ signed_shape ds (put_in (scope_at s ks)) (type_shape k))) (sym c.in-Pair.is)
    (arm_written_pair (T a) (T b) c.args.target i j c.requires.target (moves a) (moves b)
    c.in_ok-first-in-Pair.ensures.gives c.in_ok-second-in-Pair.ensures.gives
    (subst (λ (e : TypeExp). Adds c.add_any-in-Pair-2.new.self c.constrain_written-in-Pair.new.state (λ s of. s i ≡ T e s)) c.deref-in-Pair.ensures c.in_ok-constrain_written-in-Pair.ensures)
    (subst (λ (e : TypeExp). Adds c.constrain_written-in-Pair.new.state c.constrain_written-in-Pair-2.new.state (λ s of. s j ≡ T e s)) c.deref-in-Pair-2.ensures c.in_ok-constrain_written-in-Pair-2.ensures)
    c.in_ok-equate_pair-in-Pair.ensures)
