use Rattle.std.proofs.Common.{◌≡◌, length, arith}
use Rattle.nesl_eval_columns.proofs.Turns.{three_len, written}
use Rattle.nesl_eval_columns.proofs.made.each_of_two.Goals as goal

pub returns-then-filled : goal.returns-then-filled
returns-then-filled g c =
    let each = c.filled.ensures c.if-filled.true in
    let len : length c.filled.new.out ≡ c.resize.new.self.len = omega (arith, three_len _ _ _ _ each, c.in-Ok.ensures.len, c.deref_mut.ensures.len) in
    rw (written c.resize.new.self.len c.filled.new.out c.resize.new.self.items len) each
