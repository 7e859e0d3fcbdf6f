use Rattle.std.proofs.Common.{◌≡◌, ◌∙◌, Some, sym, ap, subst, refl}
use Rattle.std.proofs.Common.{◌<◌, ℕ, Option, length}
use Rattle.std.specs.Prelude.{option_map, MatchOption}
use Rattle.nesl_types_shared.specs.Types.{type_at}
use Rattle.nesl_syntax_tree.specs.declared.tree.TypeExp.{TypeExp}
use Rattle.nesl_syntax_tree.specs.Views.{type_tree}
use Rattle.nesl_infer_rules.specs.Typing.{IsWritten}
use Rattle.nesl_infer_rules.proofs.WrittenPairs.{IsAt, pair_at}
use Rattle.nesl_types.specs.declared.bindings.Top.{Top}
use Rattle.nesl_types_shared.specs.Term.{Term, named}
use Rattle.nesl_types_shared.specs.Numbering.{IsBelow}
use Rattle.nesl_syntax_tree.specs.declared.tree.TypeNode.{TypeNode}
use Rattle.nesl_syntax_tree.specs.Views.{type_shape}
use Rattle.nesl_infer_names.specs.Names.{datatype_in, as_datatype}
use Rattle.nesl_infer_rules.specs.Typing.{IsWrittenShape}
use Rattle.nesl_infer_rules.proofs.written.+written_type.Goals as goal

pub returns-in_ok-put-in-Some-Datatype-default-clause-written : goal.returns-in_ok-put-in-Some-Datatype-default-clause-written
returns-in_ok-put-in-Some-Datatype-default-clause-written g t c =
    let ds = datatype_in c.args.context.now in
    let d = c.in-Some-Datatype-default in
    let put = c.in_ok-put-in-Some-Datatype-default.ensures.ok in
    let is : ds c.as_slice.result.now ≡ Some (d.tag, d.field-0-0-1) = ap (λ k. as_datatype (option_map (λ b. b.0) k)) (sym d.ensures) ∙ ap (λ (u : Top). as_datatype (Some u)) d.field-0-0-is in
    let found : ds c.in-Name.name.letters.items ≡ Some (d.tag, d.field-0-0-1) = ap ds (sym c.as_slice.ensures.value) ∙ is in
    let written = subst (λ (k : TypeNode). IsWrittenShape ds (type_shape k) (named d.tag)) (sym c.in-Name.is) ((d.tag, d.field-0-0-1), found, refl) in (
      put.within,
      subst (λ (u : Term). IsWrittenShape ds (type_shape c.args.written.now.node) u) (sym put.here) written,
      subst (λ (u : Term). IsBelow 0 u) (sym put.here) tt,
    )

pub returns-in_ok-put-in-Pair-clause-written : goal.returns-in_ok-put-in-Pair-clause-written
returns-in_ok-put-in-Pair-clause-written g t c =
    let ds = datatype_in c.args.context.now in
    let one = c.written_type-in-Pair.new.bank in
    let two = c.written_type-in-Pair-2.new.bank in
    let three = c.put-in-Pair.new.self in
    let a = c.deref-in-Pair.result.now in
    let b = c.deref-in-Pair-2.result.now in
    let r = c.in_ok-put-in-Pair.field-0 in
    let first = subst (λ (o : Option ℕ). MatchOption o ((u : Term) → IsWritten ds (type_tree a) u → ⊥) (IsAt ds (type_tree a) one)) c.in-Some-2.is c.in_ok-first-in-Pair.ensures.written in
    let second = subst (λ (o : Option ℕ). MatchOption o ((u : Term) → IsWritten ds (type_tree b) u → ⊥) (IsAt ds (type_tree b) two)) c.in-Some-3.is c.in_ok-second-in-Pair.ensures.written in
    let left = subst (λ (e : TypeExp). IsAt ds (type_tree e) one c.in-Some-2.first) c.deref-in-Pair.ensures first in
    let right = subst (λ (e : TypeExp). IsAt ds (type_tree e) two c.in-Some-3.second) c.deref-in-Pair-2.ensures second in
    subst (λ (k : TypeNode). (r < length three) × IsWrittenShape ds (type_shape k) (type_at three r) × IsBelow 0 (type_at three r)) (sym c.in-Pair.is)
    (pair_at ds (type_tree c.in-Pair.first.value) (type_tree c.in-Pair.second.value) one two three c.in-Some-2.first c.in-Some-3.second r left c.written_type-in-Pair-2.ensures.extends right c.in_ok-put-in-Pair.ensures.ok)
