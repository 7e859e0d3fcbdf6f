use Rattle.nesl_builtins.proofs.Near.{unnamed}
use Rattle.nesl_builtins.proofs.builtin.named.Goals as goal

pub returns-in-empty : goal.returns-in-empty
returns-in-empty c = unnamed c.args.name.now c.in-empty.len_below
