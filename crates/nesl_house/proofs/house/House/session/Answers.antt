use Rattle.std.proofs.Common.{Some, ap, ◌∙◌}
use Rattle.nesl_house.proofs.Places.{session_found, session_missed}
use Rattle.nesl_house.proofs.house.House.session.Goals as goal

pub returns-in-Some : goal.returns-in-Some
returns-in-Some c = ap (λ x. Some x) c.session.ensures ∙ session_found c.args.self.now c.self.inside.users.items c.as_slice.result.now c.args.user.now c.in-Some.place c.index.result.now c.self.view_is c.in-Some.ensures c.as_slice.ensures.value c.index.ensures

pub returns-in-None : goal.returns-in-None
returns-in-None c = session_missed c.args.self.now c.self.inside.users.items c.as_slice.result.now c.args.user.now c.self.view_is c.in-None.ensures c.as_slice.ensures.value
