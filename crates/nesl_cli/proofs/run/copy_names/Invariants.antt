use Rattle.std.proofs.Common.{◌≡◌, map, take}
use Rattle.nesl_cli.proofs.run.copy_names.Given as goal

abbrev pub invariant-loop-user : goal.invariant-loop-user
invariant-loop-user l = map (λ name. name.items) l.names.items ≡ map (λ user. user.now) (take l.user-index l.users)
