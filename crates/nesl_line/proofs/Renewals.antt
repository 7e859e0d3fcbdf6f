-- What becomes of a session that ends, and of the one that begins in its place.
use Rattle.std.specs.Prelude.{Result, Ok, Err, OnOk}
use Rattle.nesl_session_meaning.specs.State.{Log}
use Rattle.nesl_house.specs.Renewal.{renewed}
use Rattle.nesl_line.specs.Renewing.{IsRenewed}

-- what holds holds where something went well, too
pub on_ok : {A E : Type 0} {T : Type 0} (result : Result A E) → T → OnOk result T
on_ok (Ok x) t = t
on_ok (Err e) t = tt

-- a session was taken up, and then another one began in its place
pub renewed_since
    : {K A E : Type 0} (keeps : K → Log → Type 0) (leaves : K → K → Log → Log → Type 0) (start mid now : K) (was : Log) (result : Result A E)
    → leaves start mid was was → OnOk result (leaves mid now was (renewed was)) → OnOk result (keeps now (renewed was))
    → OnOk result (IsRenewed keeps leaves start now)
renewed_since keeps leaves start mid now was (Ok x) same left kept = record { was = was; found = mid; same = same; left = left; kept = kept }
renewed_since keeps leaves start mid now was (Err e) same left kept = tt
