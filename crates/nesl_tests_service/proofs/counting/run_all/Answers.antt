use denote.Exit.{no}
use denote.RattleType.{RattleType}
use denote.Ref.{NamedLft}
use denote.Param.Send.{IsSync, sendable, param_sync, arg_sync}
use Rattle.std.proofs.Crossing as standard
use Rattle.nesl_house.proofs.Crosses.{table_sync}
use Rattle.nesl_house.proofs.lease.Receipt.TheSendSync as receipt_crosses
use Rattle.nesl_tests_service.specs.contracts.counting.Counting as counting_row
use Rattle.nesl_tests_service.proofs.counting.Told.TheSendSync as told_crosses
use Rattle.nesl_tests_service.proofs.counting.run_all.Goals as goal

counting_sync : (a : NamedLft) (R : RattleType) → IsSync R → IsSync (counting_row.the_row a R)
counting_sync a R r = search (sendable, standard.crosses, table_sync, receipt_crosses.the_send, told_crosses.the_send) depth 40 fits 1000000

pub run_crowd-requires-sync-S : goal.run_crowd-requires-sync-S
run_crowd-requires-sync-S g c = λ κs lives. param_sync 1 _ (arg_sync _ no _ (counting_sync _ _ c.type_bounds.sync-R))
