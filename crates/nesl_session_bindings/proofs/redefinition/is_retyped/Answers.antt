use Rattle.std.proofs.Common.{◌≡◌, Some, None}
use Rattle.nesl_types.specs.Names.{found}
use Rattle.nesl_session_bindings.specs.Stored.{kind_of}
use Rattle.nesl_session_bindings.proofs.Refusals.{not_retyped, retyped_then, retyped_else}
use Rattle.nesl_session_bindings.proofs.redefinition.is_retyped.Goals as goal

pub returns-in-None : goal.returns-in-None
returns-in-None c =
    let none : None ≡ found c.args.name.now c.args.env.now = rw c.in-None.is at c.requires.stands in
    (λ q. absurd cc, λ h. absurd (not_retyped c.args.env.now c.requires.fit c.args.name.now (kind_of c.args.kind) none h))

pub returns-then-changes_type : goal.returns-then-changes_type
returns-then-changes_type c =
    let some : Some (c.in-Some.top.now, c.in-Some.field-0-1.now) ≡ found c.args.name.now c.args.env.now = rw c.in-Some.is at c.requires.stands in
    retyped_then c.args.env.now c.requires.fit c.args.name.now (kind_of c.args.kind) c.in-Some.top.now c.in-Some.field-0-1.now some c.changes_type.result c.is_referred.result c.changes_type.ensures c.is_referred.ensures c.if-changes_type.true

pub returns-else-changes_type : goal.returns-else-changes_type
returns-else-changes_type c =
    let some : Some (c.in-Some.top.now, c.in-Some.field-0-1.now) ≡ found c.args.name.now c.args.env.now = rw c.in-Some.is at c.requires.stands in
    retyped_else c.args.env.now c.requires.fit c.args.name.now (kind_of c.args.kind) c.in-Some.top.now c.in-Some.field-0-1.now some c.changes_type.result c.changes_type.ensures c.if-changes_type.false
