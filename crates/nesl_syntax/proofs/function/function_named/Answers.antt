use Rattle.std.proofs.Common.{◌≡◌, Err, rules}
use Rattle.nesl_syntax.proofs.Functions.{head_fails, body_fails}
use Rattle.nesl_syntax.proofs.function.function_named.Goals as goal

pub returns-in_err-head : goal.returns-in_err-head
returns-in_err-head c =
    let k : c.from_residual-in_err-head.result ≡ Err c.in_err-head.field-0.0 = search rules in
    rw k (head_fails _ _ _ _ _ c.in-Some.ensures c.in_err-head.ensures)

pub returns-in_err-body : goal.returns-in_err-body
returns-in_err-body c =
    let k : c.from_residual-in_err-body.result ≡ Err c.in_err-body.field-0.0 = search rules in
    rw k (body_fails _ _ _ _ _ c.in_ok-head.head c.in-Some.ensures c.in_ok-head.ensures c.in_err-body.ensures)
