use denote.Exit.{no}
use denote.RattleType.{RattleType}
use denote.Ref.{NamedLft}
use denote.Param.Send.{IsSync, sendable, param_sync, arg_sync}
use Rattle.std.proofs.Crossing as standard
use Rattle.std.specs.declared.sync.ledger.Ledger.{Ghosts}
use Rattle.nesl_house.proofs.Crosses.{table_sync}
use Rattle.nesl_service.proofs.Crosses.{pool_sync}
use Rattle.nesl_tests_service.specs.contracts.at_once.AtOnce as at_once_row
use Rattle.nesl_tests_service.proofs.at_once.Entered.TheSendSync as entered_crosses
use Rattle.nesl_tests_service.proofs.at_once.serve_both.Goals as goal

at_once_sync : (a : NamedLft) (R L : RattleType) (g : Ghosts L.Denot) → IsSync R → IsSync L → IsSync (at_once_row.the_row a R L g)
at_once_sync a R L g r l = search (sendable, standard.crosses, table_sync, pool_sync, entered_crosses.the_send) depth 60 fits 1000000

pub run_crowd-requires-sync-S : goal.run_crowd-requires-sync-S
run_crowd-requires-sync-S g c = λ κs lives. param_sync 1 _ (arg_sync _ no _
    (at_once_sync _ _ _ _ c.type_bounds.sync-R c.type_bounds.sync-L))
