use Rattle.std.proofs.Common.{◌≡◌, take}
use Rattle.nesl_keys.specs.Making.{handouts}
use Rattle.nesl_keys.proofs.make.make_handouts.Given as goal

abbrev pub invariant-loop-newcomer : goal.invariant-loop-newcomer
invariant-loop-newcomer l = l.lines.items ≡ handouts l.page (take l.newcomer-index l.newcomers)
