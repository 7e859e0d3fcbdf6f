use Rattle.std.proofs.Common.{◌<◌, arith}
use Rattle.nesl_syntax_open.specs.Machine.{wanted}
use Rattle.nesl_syntax.proofs.StepLemmas.{list_follows}
use Rattle.nesl_syntax.proofs.parse.separate.Goals as goal

pub returns : goal.returns
returns c = λ ws x s p.
    let wants = rw c.deref.ensures.value at c.wanted.ensures in
    let far : 1 < wanted ws = omega (arith, wants ws s) in
    list_follows _ _ _ _ _ ws x (c.in-Some.ensures ws s) c.list.ensures p far
