use Rattle.std.proofs.Common.{arith}
use Rattle.nesl_builtins.specs.Named.{builtins, builtin_named}
use Rattle.nesl_builtins.proofs.Near.{begun}
use Rattle.nesl_builtins.proofs.builtin.names_near.Goals as goal

pub returns-then-first-lt100 : goal.returns-then-first-lt100
unfolding builtin_named
returns-then-first-lt100 c rest = begun 0 100 c.args.first rest builtins (omega arith) c.if-first-lt100.true

pub returns-else-first-lt100 : goal.returns-else-first-lt100
unfolding builtin_named
returns-else-first-lt100 c rest =
    begun 100 109 c.args.first rest builtins c.if-first-lt100.false c.if-first-lt109.true

pub returns-then-first-lt112 : goal.returns-then-first-lt112
unfolding builtin_named
returns-then-first-lt112 c rest =
    begun 109 112 c.args.first rest builtins c.if-first-lt109.false c.if-first-lt112.true

pub returns-then-first-lt115 : goal.returns-then-first-lt115
unfolding builtin_named
returns-then-first-lt115 c rest =
    begun 112 115 c.args.first rest builtins c.if-first-lt112.false c.if-first-lt115.true

pub returns-else-first-lt115 : goal.returns-else-first-lt115
unfolding builtin_named
returns-else-first-lt115 c rest =
    begun 115 256 c.args.first rest builtins c.if-first-lt115.false (omega arith)
