use Rattle.std.proofs.Common.{◌≡◌, ◌∙◌, ap, subst}
use Rattle.std.specs.Prelude.{OnOk}
use Rattle.nesl_session_meaning.specs.State.{Log}
use Rattle.nesl_house.specs.Register.{Leased}
use Rattle.nesl_house.specs.Renewal.{renewed}
use Rattle.nesl_line.proofs.Renewals.{on_ok}
use Rattle.nesl_line.proofs.renew.begin_anew.Goals as goal

pub keep_anew-requires : goal.keep_anew-requires
keep_anew-requires g c =
    let is : c.session.result.now ≡ renewed c.args.lease.now.seat.session = c.session.ensures ∙ ap (λ (l : Leased). l.seat.session) c.in-Ok.ensures.renewed in
    (c.args.lease.now.seat.session, c.requires, is)

pub returns-in-Ok-clause-left : goal.returns-in-Ok-clause-left
returns-in-Ok-clause-left g c =
    let was = c.args.lease.now.seat.session in
    let is : c.session.result.now ≡ renewed was = c.session.ensures ∙ ap (λ (l : Leased). l.seat.session) c.in-Ok.ensures.renewed in
    on_ok c.keep_anew.result (subst (λ (s : Log). g.K.Keeper.leaves c.args.keeper.now c.keep_anew.new.keeper was s) is (c.keep_anew.ensures.left was c.requires is))

pub returns-in-Ok-clause-kept : goal.returns-in-Ok-clause-kept
returns-in-Ok-clause-kept g c =
    let is : c.session.result.now ≡ renewed c.args.lease.now.seat.session = c.session.ensures ∙ ap (λ (l : Leased). l.seat.session) c.in-Ok.ensures.renewed in
    subst (λ (s : Log). OnOk c.keep_anew.result (g.K.Keeper.keeps c.keep_anew.new.keeper s)) is c.keep_anew.ensures.kept
