-- What the threads of a service share of it.
use denote.Param.Send.{IsSend, sendable}
use Rattle.std.proofs.Crossing as standard
use Rattle.nesl_house.proofs.lease.Receipt.TheSendSync as receipt_crosses
use Rattle.nesl_service_records.specs.contracts.receipts.Receipts as receipts_row

pub receipts_send : IsSend receipts_row.the_row
receipts_send = search (sendable, standard.crosses, receipt_crosses.the_send) depth 30 fits 100000
