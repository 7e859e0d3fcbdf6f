use Rattle.std.proofs.Common.{◌≡◌, take}
use Rattle.nesl_keys.specs.Making.{keys_file}
use Rattle.nesl_keys.proofs.make.make_file.Given as goal

abbrev pub invariant-loop-newcomer : goal.invariant-loop-newcomer
invariant-loop-newcomer l = l.file.items ≡ keys_file (take l.newcomer-index l.newcomers)
