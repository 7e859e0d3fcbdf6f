use Rattle.nesl_line.proofs.Visits.{attended}
use Rattle.nesl_line.proofs.serve.attend.Goals as goal

pub returns-clause-attends : goal.returns-clause-attends
returns-clause-attends g c =
    attended g.K.Keeper.keeps g.K.Keeper.leaves g.K.Keeper.has_failed c.args.keeper.now c.exchange-ran.new.world c.args.room.now.table.now c.new-guest.result.table.now c.exchange-ran.new.hearer.table.now c.exchange-ran.new.hearer.stage c.leave-receipt.result.receipt c.exchange-ran.result.end c.exchange-ran.result.lines _ c.new-guest.ensures.table c.leave-receipt.ensures
    c.exchange-ran.ensures.exchange
