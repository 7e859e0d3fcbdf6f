use Rattle.std.proofs.Common.{[], refl, subst, sym}
use Rattle.nesl_line.specs.declared.guest.Stage.{Stage}
use Rattle.nesl_line.specs.Hinted.{json_front}
use Rattle.nesl_line.specs.Visiting.{HeardAt}
use Rattle.nesl_line.proofs.Hints.{hints_none}
use Rattle.nesl_line.proofs.Visits.{hinted}
use Rattle.nesl_line.proofs.serve.serve_with_hints.Goals as goal

pub exchange-ran-requires-clause-nothing_heard : goal.exchange-ran-requires-clause-nothing_heard
exchange-ran-requires-clause-nothing_heard g c =
    let keeper = c.args.keeper.now in
    let table = c.new-guest.result.table.now in
    let P : Stage → Type 0 = λ s. HeardAt g.K.Keeper.keeps g.K.Keeper.leaves g.K.Keeper.has_failed keeper keeper table.roster table.limits s [] [] in
    hints_none json_front _ (refl, subst P (sym c.new-guest.ensures.stage) (refl, refl, refl))

pub returns-clause-served : goal.returns-clause-served
returns-clause-served g c =
    hinted g.K.Keeper.keeps g.K.Keeper.leaves g.K.Keeper.has_failed c.args.keeper.now c.exchange-ran.new.world c.args.room.now.table.now c.new-guest.result.table.now c.exchange-ran.new.hearer.guest.table.now c.exchange-ran.new.hearer.guest.stage _ _ c.new-guest.ensures.table c.leave-receipt.ensures
    c.exchange-ran.ensures.exchange
