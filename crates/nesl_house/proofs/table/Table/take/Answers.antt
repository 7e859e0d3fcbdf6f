use Rattle.std.proofs.Common.{◌≡◌, ◌∙◌, sym, ap, Some, rules}
use Rattle.nesl_session_meaning.specs.State.{Log}
use Rattle.nesl_house.specs.Register.{Leased, Register}
use Rattle.nesl_house.proofs.Boards.{lent_place}
use Rattle.nesl_house.proofs.table.Table.take.Goals as goal

pub returns-clause-place : goal.returns-clause-place
returns-clause-place g c =
    lent_place c.deref_mut.result.now.slots.items c.in-Some.place c.in-Some-take_out.seat _ c.deref_mut.result.now.in_place c.in-Some-take_out.ensures.home c.in-Some.ensures.place ∙ ap (λ (l : Leased). Some l.seat.place) (sym c.new.ensures)

pub returns-clause-limits : goal.returns-clause-limits
returns-clause-limits g c =
    let same : c.limits.result ≡ c.self.inside.limits = search rules in
    ap (λ (l : Leased). l.seat.session.limits) c.new.ensures ∙ ap (λ (s : Log). s.limits) (sym c.session.ensures) ∙ sym c.limits.ensures ∙ same ∙ ap (λ (r : Register). r.limits) c.self.view_is
