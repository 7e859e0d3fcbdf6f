-- The readers of a connection, to those who don't see their fields.
use Rattle.std.specs.Prelude.{ℕ, List, Option, None, Some}
use Rattle.nesl_keys.specs.declared.admitted.Admitted.{Admitted}
use Rattle.nesl_keys.specs.declared.doors.Doors.{Doors}
use Rattle.nesl_keys.specs.Hearing.{heard_of, line_at}

-- the stream that is read
abbrev pub stream_of : {T : Type 0} → Admitted T → T
stream_of admitted = admitted.stream

-- what the service hears when the stream gives these bytes
abbrev pub heard_from : {T : Type 0} → Admitted T → List ℕ → List ℕ
heard_from admitted bytes = heard_of admitted.porter bytes

-- the line that is heard in place of the first one with its LF, if somebody was let in
abbrev pub line_from : {T : Type 0} → Admitted T → Option (List ℕ)
line_from admitted = line_at admitted.porter.stage admitted.porter.line.items

-- the stream behind two doors, and what is heard through both
abbrev pub stream_behind : {T : Type 0} → Doors T → T
stream_behind doors = stream_of (stream_of doors.reader)

abbrev pub heard_through : {T : Type 0} → Doors T → List ℕ → List ℕ
heard_through doors bytes = heard_from doors.reader (heard_from (stream_of doors.reader) bytes)

-- the line of somebody whom the first door lets in, unless the second one has turned them away
abbrev pub unless_away : {A : Type 0} → Option A → Option (List ℕ) → Option (List ℕ)
unless_away None line = line
unless_away (Some fault) line = None

abbrev pub line_through : {T : Type 0} → Doors T → Option (List ℕ)
line_through doors = unless_away doors.reader.porter.away (line_from (stream_of doors.reader))
