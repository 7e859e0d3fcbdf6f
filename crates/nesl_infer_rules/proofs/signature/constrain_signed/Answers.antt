use Rattle.std.proofs.Common.{List, map, subst, arith}
use Rattle.std.specs.Prelude.{All}
use Rattle.nesl_infer_names.specs.Names.{datatype_in}
use Rattle.nesl_syntax_tree.specs.declared.tree.Member.{Member}
use Rattle.nesl_syntax_tree.specs.Views.{member_tree, signature_tree}
use Rattle.nesl_infer_rules.specs.declared.state.Local.{Local}
use Rattle.nesl_infer_rules.specs.Signatures.{FreeNames, put_in}
use Rattle.nesl_infer_rules.specs.Typing.{IsInItsClass}
use Rattle.nesl_infer_rules.specs.Steps.{Adds, count, scope_at}
use Rattle.nesl_infer_rules.proofs.Patterns.{locals-weaker}
use Rattle.nesl_infer_rules.proofs.Signatures.{NamesIn, both_below, arm_signed}
use Rattle.nesl_infer_rules.proofs.signature.constrain_signed.Goals as goal

pub returns : goal.returns
returns g c =
    let ds = datatype_in c.args.context.now in
    let g1 = signature_tree c.args.signature.now in
    let t = c.args.takes in
    let u = c.args.gives in
    let ms = c.name_types.new.names in
    let os = c.name_types-2.new.names in
    let B1 = c.name_types.new.state in
    let B2 = c.name_types-2.new.state in
    let B3 = c.constrain_written.new.state in
    let B4 = c.constrain_written-2.new.state in
    arm_signed ds g1 t u ms os c.requires.takes c.requires.gives
    (subst (λ (ks : List Local). NamesIn c.args.state.now B1 ks ms (FreeNames g1.from)) c.new-names.ensures c.in_ok-name_types.ensures)
    c.in_ok-name_types-2.ensures
    c.in_ok-constrain_written.ensures
    c.in_ok-constrain_written-2.ensures
    (subst (λ (ks : List Member). Adds B4 c.constrain_members.new.state (λ s of. All (IsInItsClass ds of (put_in (scope_at s os))) (map member_tree ks))) c.as_slice.ensures.value c.in_ok-constrain_members.ensures)

pub constrain_written-requires-clause-names : goal.constrain_written-requires-clause-names
constrain_written-requires-clause-names g c =
    let n = count c.name_types-2.new.state in
    let ms = c.name_types.new.names in
    let os = c.name_types-2.new.names in
    let below = both_below {A = c.args.state.now} {B = c.name_types.new.state} {C = c.name_types-2.new.state} _ ms os _ _ c.new-names.ensures c.in_ok-name_types.ensures c.in_ok-name_types-2.ensures in
    below

pub constrain_written-requires-2-clause-names : goal.constrain_written-requires-2-clause-names
constrain_written-requires-2-clause-names g c =
    let n = count c.constrain_written.new.state in
    let ms = c.name_types.new.names in
    let os = c.name_types-2.new.names in
    let below = both_below {A = c.args.state.now} {B = c.name_types.new.state} {C = c.name_types-2.new.state} _ ms os _ _ c.new-names.ensures c.in_ok-name_types.ensures c.in_ok-name_types-2.ensures in
    locals-weaker (count c.name_types-2.new.state) n os c.in_ok-constrain_written.ensures.more below

pub constrain_members-requires : goal.constrain_members-requires
constrain_members-requires g c =
    let n = count c.constrain_written-2.new.state in
    let ms = c.name_types.new.names in
    let os = c.name_types-2.new.names in
    let below = both_below {A = c.args.state.now} {B = c.name_types.new.state} {C = c.name_types-2.new.state} _ ms os _ _ c.new-names.ensures c.in_ok-name_types.ensures c.in_ok-name_types-2.ensures in
    let a = c.in_ok-constrain_written.ensures.more in
    let b = c.in_ok-constrain_written-2.ensures.more in
    record { names = locals-weaker (count c.name_types-2.new.state) n os (omega arith) below }
