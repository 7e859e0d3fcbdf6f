-- What is kept of a session that ends, and of the one that begins in its place.
use Rattle.nesl_session_meaning.specs.State.{Log}
use Rattle.nesl_house.specs.Renewal.{renewed}

-- A session was taken up, and another one began in its place. If the process had ended while the first was taken up,
-- that one would have come back, and later one of the two. The second one is kept.
pub record IsRenewed
    {K : Type 0} (keeps : K → Log → Type 0) (leaves : K → K → Log → Log → Type 0) (start now : K) : Type 0 where
  pub was : Log
  pub found : K
  pub same : leaves start found was was
  pub left : leaves found now was (renewed was)
  pub kept : keeps now (renewed was)
