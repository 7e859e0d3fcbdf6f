-- A session that ends, and the one that begins in its place.
use Rattle.std.specs.Prelude.{[]}
use Rattle.nesl_session_meaning.specs.State.{Log, recorded_lines}

-- the session that begins where another one ends: nothing is bound or stored, all of its work is left, and the lines
-- that were recorded until then count as cleared
abbrev pub renewed : Log → Log
renewed log = record {
  limits = log.limits;
  base = log.limits.session_work;
  cleared = recorded_lines log;
  lines = [];
}
