use denote.Exit.{no}
use denote.Param.Send.{param_sync, arg_sync}
use Rattle.nesl_service.proofs.Crosses.{service_sync}
use Rattle.nesl_service.proofs.service.Service.run_beside.Goals as goal

pub run_crowd-requires-sync-S : goal.run_crowd-requires-sync-S
run_crowd-requires-sync-S g c = λ κs lives. param_sync 1 _ (arg_sync _ no _
    (service_sync _ _ _ _ _ _ _ c.type_bounds.sync-R c.type_bounds.sync-L c.type_bounds.sync-G c.type_bounds.sync-J c.type_bounds.sync-A))
