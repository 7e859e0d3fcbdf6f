use Rattle.std.proofs.Common.{arith}
use Rattle.nesl_keys.specs.Admission.{came_with}
use Rattle.nesl_keys.proofs.Hearings.{lets_in, nobody_let_in}
use Rattle.nesl_keys.proofs.first_line.let_in.Goals as goal

pub returns-in-Ok : goal.returns-in-Ok
returns-in-Ok c =
    let k = lets_in c.args.door.sign_in (came_with (record { first_line = c.args.line; headers = c.args.door.headers; query = c.args.door.query })) c.in-Ok.heard.now c.in_default.not-Word c.in-Ok.ensures.ok in
    record { ok = (k.name, k.found_is, k.front_is, k.fits, omega (arith, k.few)); err = tt }

pub returns-in-Err : goal.returns-in-Err
returns-in-Err c =
    record {
      ok = tt;
      err = nobody_let_in c.args.door.sign_in (came_with (record { first_line = c.args.line; headers = c.args.door.headers; query = c.args.door.query })) c.in_default.not-Word c.in-Err.ensures.nobody;
    }
