use Rattle.std.proofs.Common.{◌≡◌, length, arith}
use Rattle.nesl_eval_columns.proofs.Turns.{two_len, written}
use Rattle.nesl_eval_columns.proofs.made.each_of.Goals as goal

pub returns-then-turned : goal.returns-then-turned
returns-then-turned g c =
    let each = c.turned.ensures c.if-turned.true in
    let len : length c.turned.new.out ≡ c.resize.new.self.len = omega (arith, two_len _ _ _ each, c.in-Ok.ensures.len, c.deref_mut.ensures.len) in
    rw (written c.resize.new.self.len c.turned.new.out c.resize.new.self.items len) each
