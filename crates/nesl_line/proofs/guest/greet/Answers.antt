use Rattle.std.proofs.Common.{◌≡◌, Some, Err, sym, ap, ◌∙◌}
use Rattle.nesl_line.specs.Guest.{stranger, away}
use Rattle.nesl_line.proofs.Visits.{seated_first, turned_away, heard_turned_away, names_none, names_place, names_this}
use Rattle.nesl_line.proofs.guest.greet.Goals as goal

pub returns-in_default-clause-heard : goal.returns-in_default-clause-heard
returns-in_default-clause-heard g c =
    heard_turned_away g.K.Keeper.keeps g.K.Keeper.leaves g.K.Keeper.has_failed _ _ c.args.table.now.roster c.args.table.now.limits c.args.line.now _ _ c.no_user.result _ c.turned_away.ensures.stage c.turned_away.ensures.told c.no_user.ensures
    (stranger c.args.line.now (λ place n. c.in_default.ensures.none n.user n.named))

pub returns-in-Ok-take_up-clause-heard : goal.returns-in-Ok-take_up-clause-heard
returns-in-Ok-take_up-clause-heard g c =
    let e = c.in-Ok-take_up.ensures in
    let t = e.taken in
    seated_first g.K.Keeper.keeps g.K.Keeper.leaves g.K.Keeper.has_failed c.args.keeper.now c.take_up.new.self c.args.table.now.roster c.args.table.now.limits c.in-Ok-take_up.taken.lease c.args.line.now c.in-Some.user.now c.in-Some.ensures.some
    (c.in-Ok.ensures.place ∙ ap Some (sym t.place)) (t.limits ∙ c.in-Ok.ensures.limits) t.counted t.replayed e.kept e.left

pub returns-in-Err-clause-heard : goal.returns-in-Err-clause-heard
returns-in-Err-clause-heard g c =
    turned_away c.args.table.now.roster c.args.table.now.limits c.args.line.now _ c.busy.result c.busy.ensures
    (away c.args.line.now c.in-Ok.lease.seat.place (names_this c.args.table.now.roster c.args.line.now c.in-Some.user.now c.in-Ok.lease.seat.place c.in-Some.ensures.some c.in-Ok.ensures.place))

pub returns-in-Err-NoUser-clause-heard : goal.returns-in-Err-NoUser-clause-heard
returns-in-Err-NoUser-clause-heard g c =
    heard_turned_away g.K.Keeper.keeps g.K.Keeper.leaves g.K.Keeper.has_failed _ _ c.args.table.now.roster c.args.table.now.limits c.args.line.now _ _ c.no_user-in-Err-NoUser.result _ c.turned_away-in-Err-NoUser.ensures.stage c.turned_away-in-Err-NoUser.ensures.told c.no_user-in-Err-NoUser.ensures
    (stranger c.args.line.now (names_none c.args.table.now.roster c.args.line.now c.in-Some.user.now c.in-Some.ensures.some (c.in-Err-NoUser.ensures.no_user.0 (λ i. Err (c.in-Err-NoUser.field-0-is i)))))

pub returns-in-Err-Busy-clause-heard : goal.returns-in-Err-Busy-clause-heard
returns-in-Err-Busy-clause-heard g c =
    let named = names_place c.args.table.now.roster c.args.line.now c.in-Some.user.now c.in-Some.ensures.some (λ none. let no' = c.in-Err-Busy.ensures.no_user.1 none in cc) in
    heard_turned_away g.K.Keeper.keeps g.K.Keeper.leaves g.K.Keeper.has_failed _ _ c.args.table.now.roster c.args.table.now.limits c.args.line.now _ _ c.busy-in-Err-Busy.result _ c.turned_away-in-Err-Busy.ensures.stage c.turned_away-in-Err-Busy.ensures.told c.busy-in-Err-Busy.ensures
    (away c.args.line.now named.0 named.1)
