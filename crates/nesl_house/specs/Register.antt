-- What callers see of tables, seats and leases.
use Rattle.std.specs.Prelude.{ℕ, List}
use Rattle.nesl_session_meaning.specs.declared.limits.Limits.{Limits}
use Rattle.nesl_session_meaning.specs.State.{Log}

-- a table: its users in order, and the limits of their sessions
pub record Register : Type 0 where
  pub roster : List (List ℕ)
  pub limits : Limits

-- a place of a table, and the session that answers lines there
pub record Seat : Type 0 where
  pub place : ℕ
  pub session : Log

-- A seat that is out, with its session as it is now. `counted` is the number of lines that the session had recorded
-- when the seat was taken out.
pub record Leased : Type 0 where
  pub seat : Seat
  pub counted : ℕ
