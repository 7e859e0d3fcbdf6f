-- What threads share of this crate.
use denote.Ref.{NamedLft}
use denote.Param.Send.{IsSync, sendable}
use Rattle.std.proofs.Crossing as standard
use Rattle.nesl_keys.specs.contracts.keys.Keys as keys_row
use Rattle.nesl_keys.specs.contracts.sign_in.SignIn as sign_in_row
use Rattle.nesl_keys.proofs.sign_in.SignIn.TheSendSync as sign_in_crosses

-- many threads may read the same keys
pub keys_sync : IsSync keys_row.the_row
keys_sync = search (sendable, standard.crosses) depth 30 fits 100000

-- and may know users in the same way
pub sign_in_sync : (k : NamedLft) → IsSync (sign_in_row.the_row k)
sign_in_sync k = search (sendable, standard.crosses, keys_sync, sign_in_crosses.the_sync) depth 30 fits 100000
