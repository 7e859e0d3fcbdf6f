-- What one connection reads and writes, and what becomes of the session of its user.
use Rattle.std.specs.Prelude.{Bool, ℕ, List, Option}
use Rattle.nesl_session_meaning.specs.declared.limits.Limits.{Limits}
use Rattle.nesl_session_meaning.specs.State.{Log}
use Rattle.nesl_house.specs.declared.lease.Receipt.{Receipt}
use Rattle.nesl_line.specs.declared.serve.Served.{Served}
use Rattle.nesl_line.specs.Exchange.{Hearing, IsExchange, Streams}
use Rattle.nesl_line.specs.Hinted.{WithHints, json_front}
use Rattle.nesl_line.specs.Keeping.{IsHeardAndKept}

-- What a connection did over these streams. `Heard` is what was heard on it, by its receipt and by whether nothing more
-- was heard: all lines are heard to the end of input, unless one was refused or could not be kept.
abbrev pub IsServed : (Heard : Option Receipt → (over : Bool) → Hearing) → Served → Streams → Type 0
IsServed Heard served streams =
    (over : Bool) × IsExchange (Heard served.receipt over) over served.end served.lines streams

-- What was heard on a connection whose user's session is kept, with hints below the answers.
abbrev pub IsHeardWithHints
    : {K : Type 0} → (K → Log → Type 0) → (K → K → Log → Log → Type 0) → (roster : List (List ℕ)) → Limits
    → (start now : K) → Option Receipt → (over : Bool) → Hearing
IsHeardWithHints keeps leaves roster limits start now receipt over =
    WithHints json_front (IsHeardAndKept keeps leaves roster limits start now receipt over)
