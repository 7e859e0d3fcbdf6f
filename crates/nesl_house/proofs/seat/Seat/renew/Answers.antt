use Rattle.std.proofs.Common.{◌≡◌, ◌+◌, ap, arith}
use Rattle.nesl_session_meaning.specs.State.{recorded_lines}
use Rattle.nesl_house.specs.Register.{Seat}
use Rattle.nesl_house.proofs.seat.Seat.renew.Goals as goal

pub returns-clause-recorded : goal.returns-clause-recorded
returns-clause-recorded c =
    let same : recorded_lines c.opened.result ≡ c.recorded_lines-cleared.result + 0 = ap recorded_lines c.opened.ensures.opened in
    let before : recorded_lines c.self.inside.session ≡ recorded_lines c.args.self.now.session = ap (λ (seat : Seat). recorded_lines seat.session) c.self.view_is in
    omega (arith, same, c.recorded_lines-cleared.ensures, before)
