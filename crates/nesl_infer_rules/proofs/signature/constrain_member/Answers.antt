use Rattle.std.proofs.Common.{◌≡◌, ◌≤◌, ℕ, List, ap, subst, ◌∙◌}
use Rattle.nesl_types.specs.declared.classes.Class.{Class}
use Rattle.nesl_types_shared.specs.Term.{Term, nodes}
use Rattle.nesl_types.specs.Class.{IsIn}
use Rattle.nesl_types_shared.specs.Substitution.{substitute}
use Rattle.nesl_unify.specs.Flat.{flat_type}
use Rattle.nesl_infer_names.specs.Names.{datatype_in}
use Rattle.nesl_infer_rules.specs.Signatures.{put_in}
use Rattle.nesl_infer_rules.specs.Typing.{LocalTypes, name_in_signature, class_of}
use Rattle.nesl_infer_rules.specs.Steps.{count, Gives, scope_at}
use Rattle.nesl_infer_rules.proofs.Places.{scope-fixed}
use Rattle.nesl_infer_rules.proofs.Patterns.{locals-weaker}
use Rattle.nesl_infer_rules.proofs.Steps.{adds_is}
use Rattle.nesl_infer_rules.proofs.Signatures.{arm_member}
use Rattle.nesl_infer_rules.proofs.signature.constrain_member.Goals as goal

pub returns : goal.returns
returns g c =
    let A = c.args.state.now in
    let ds = datatype_in c.args.context.now in
    let ks = c.args.names.now in
    let x = c.args.member.now.name.letters.items in
    let v = c.in_ok-inside.inside in
    let ty = flat_type c.name_type.result in
    let T : (ℕ → Term) → Term = λ s. name_in_signature (ds x) (put_in (scope_at s ks) x) in
    let is : (s : ℕ → Term) → substitute s ty ≡ T s = λ s. c.name_type.ensures.is s ∙ ap (λ (y : List ℕ). name_in_signature (datatype_in c.args.context.now y) (put_in (scope_at s c.args.names.now) y)) c.as_slice.ensures.value in
    arm_member (class_of c.args.member.now.class) v T
    (λ s z a. ap (λ (sc : LocalTypes). name_in_signature (ds x) (put_in sc x)) (scope-fixed (count A) ks c.requires.names s z a))
    (λ s b. subst (λ (t : Term). nodes t ≤ 4096) (is s) (c.name_type.ensures.small s b))
    (subst (λ (k : Class). Gives A c.fresh.new.self (λ s. s v) (λ s of u. IsIn of k u × (nodes u ≤ 4096))) c.class_of.ensures c.in_ok-inside.ensures.gives)
    (adds_is v (λ s. substitute s ty) T is c.in_ok-equate_flat.ensures)

pub equate_flat-requires-clause-flat : goal.equate_flat-requires-clause-flat
equate_flat-requires-clause-flat g c =
    let n = count c.fresh.new.self in
    c.name_type.ensures.below n (locals-weaker (count c.args.state.now) n c.args.names.now c.in_ok-inside.ensures.gives.more c.requires.names)
