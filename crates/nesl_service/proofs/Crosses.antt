-- What the threads of a service share.
use denote.RattleType.{RattleType}
use denote.Ref.{NamedLft}
use denote.Param.Send.{IsSend, IsSync, sendable}
use Rattle.std.proofs.Crossing as standard
use Rattle.std.specs.declared.sync.ledger.Ledger.{Ghosts}
use Rattle.nesl_eval_helpers.specs.contracts.pool.Pool as pool_row
use Rattle.nesl_eval_helpers.proofs.pool.Kept.TheSendSync as kept_crosses
use Rattle.nesl_house.proofs.Crosses.{table_sync}
use Rattle.nesl_service_records.proofs.Crosses.{receipts_send}
use Rattle.nesl_service_records.proofs.numbers.Numbers.TheSendSync as numbers_crosses
use Rattle.nesl_service.specs.contracts.accept.Acceptor as acceptor_row
use Rattle.nesl_service.specs.contracts.browse.PageAcceptor as page_acceptor_row
use Rattle.nesl_service.specs.contracts.crowd.Start as start_row
use Rattle.nesl_service.specs.contracts.helm.Watchroom as watchroom_row
use Rattle.nesl_service.specs.contracts.seat.Entrance as entrance_row
use Rattle.nesl_service.specs.contracts.seat.KeyRing as key_ring_row
use Rattle.nesl_service.specs.contracts.service.Service as service_row
use Rattle.nesl_service.specs.contracts.streams.Streams as streams_row

pub acceptor_sync : (a : NamedLft) → IsSync (acceptor_row.the_row a)
acceptor_sync a = search (sendable, standard.crosses) depth 30 fits 100000

pub page_acceptor_sync : (a : NamedLft) → IsSync (page_acceptor_row.the_row a)
page_acceptor_sync a = search (sendable, standard.crosses, acceptor_sync) depth 30 fits 100000

pub start_sync : IsSync start_row.the_row
start_sync = search (sendable, standard.crosses) depth 30 fits 100000

pub watchroom_sync : IsSync watchroom_row.the_row
watchroom_sync = search (sendable, standard.crosses) depth 30 fits 100000

pub key_ring_sync : IsSync key_ring_row.the_row
key_ring_sync = search (sendable, standard.crosses) depth 30 fits 100000

pub entrance_sync : (a : NamedLft) → IsSync (entrance_row.the_row a)
entrance_sync a = search (sendable, standard.crosses, key_ring_sync) depth 30 fits 100000

pub streams_sync : IsSync streams_row.the_row
streams_sync = search (sendable, standard.crosses) depth 30 fits 100000

pub pool_sync : (L : RattleType) (g : Ghosts L.Denot) → IsSync L → IsSync (pool_row.the_row L g)
pool_sync L g l = search (sendable, standard.crosses, kept_crosses.the_send) depth 30 fits 100000

pub service_sync : (a : NamedLft) (R L G J A : RattleType) (g : Ghosts L.Denot) → IsSync R → IsSync L → IsSync G → IsSync J → IsSync A → IsSync (service_row.the_row a R L G J A g)
service_sync a R L G J A g r l t j k = search (sendable, standard.crosses, table_sync, pool_sync, acceptor_sync, page_acceptor_sync, start_sync, entrance_sync, streams_sync, watchroom_sync, numbers_crosses.the_send, receipts_send) depth 60 fits 1000000
