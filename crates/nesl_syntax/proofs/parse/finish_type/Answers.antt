use Rattle.std.proofs.Common.{◌<◌, length, arith}
use Rattle.std.proofs.lemmas.Bool.Decides.{nat_tests}
use Rattle.nesl_syntax.proofs.StepLemmas.{type_alone_none}
use Rattle.nesl_syntax.proofs.parse.finish_type.Goals as goal

pub returns-then-not-is_empty : goal.returns-then-not-is_empty
returns-then-not-is_empty c = λ ws m s h.
    let some : 0 < length c.args.stack.now = grind (arith, nat_tests) in
    let k = rw c.in-Typed.is at h in
    rw k.1 (type_alone_none _ _ k.0 s some)
