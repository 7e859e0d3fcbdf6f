use Rattle.std.proofs.Common.{◌≡◌, ℕ, List, take, map, sym, subst, arith}
use Rattle.std.specs.Prelude.{All}
use Rattle.std.proofs.lemmas.Grind.{common_steps}
use Rattle.nesl_types.specs.declared.classes.Class.{Class}
use Rattle.nesl_types_shared.specs.Term.{Term}
use Rattle.nesl_infer_names.specs.Names.{datatype_in}
use Rattle.nesl_syntax_tree.specs.declared.tree.Member.{Member}
use Rattle.nesl_syntax_tree.specs.Trees.{MemberTree}
use Rattle.nesl_syntax_tree.specs.Views.{member_tree}
use Rattle.nesl_infer_rules.specs.Signatures.{put_in}
use Rattle.nesl_infer_rules.specs.Typing.{LocalTypes, IsInItsClass}
use Rattle.nesl_infer_rules.specs.Steps.{Adds, count, scope_at}
use Rattle.nesl_infer_rules.proofs.Places.{scope-fixed}
use Rattle.nesl_infer_rules.proofs.Signatures.{no_members, arm_members, take-members}
use Rattle.nesl_infer_rules.proofs.signature.constrain_members.Goals as goal

pub loop-member-init : goal.loop-member-init
loop-member-init g c = no_members (λ s of. IsInItsClass (datatype_in c.args.context.now) of (put_in (scope_at s c.args.names.now)))

pub loop-member-preserved : goal.loop-member-preserved
loop-member-preserved g c =
    let A = c.args.state.now in
    let ds = datatype_in c.args.context.now in
    let ks = c.args.names.now in
    let i = c.loop-member.member-index in
    let x = c.member-item.result in
    let xs = c.args.members.now in
    let Q : (ℕ → Term) → (ℕ → Class) → MemberTree → Type 0 = λ s of. IsInItsClass ds of (put_in (scope_at s ks)) in
    subst (λ (ms : List MemberTree). Adds A c.constrain_member.new.state (λ s of. All (Q s of) ms)) (sym (take-members xs i x c.loop-member-test.true c.member-item.is))
    (arm_members Q (map member_tree (take i xs)) (member_tree x)
    (λ s z of a h. subst (λ (sc : LocalTypes). IsInItsClass ds of (put_in sc) (member_tree x)) (scope-fixed (count A) ks c.requires.names s z a) h) c.loop-member.invariant c.in_ok-constrain_member.ensures)

pub returns : goal.returns
returns g c =
    let ds = datatype_in c.args.context.now in
    let ks = c.args.names.now in
    let all : take c.loop-member.member-index c.args.members.now ≡ c.args.members.now = grind (arith, common_steps) in
    subst (λ (ms : List Member). Adds c.args.state.now c.loop-member.state (λ s of. All (IsInItsClass ds of (put_in (scope_at s ks))) (map member_tree ms))) all c.loop-member.invariant
