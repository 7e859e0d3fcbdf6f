-- What is found of a line that is read.
use Rattle.std.specs.Prelude.{◌++◌, ℕ, List}
use Rattle.nesl_session_meaning.specs.declared.limits.Limits.{Limits}
use Rattle.nesl_session_meaning.specs.Reading.{Reading, HasReading}
use Rattle.nesl_session_meaning.specs.State.{State}
use Rattle.nesl_session_meaning.specs.Finding.{Finding, FindsReading}

abbrev pub FindsRead : Limits → State → List ℕ → Finding → Type 0
FindsRead limits s line f =
    (reading : Reading) × HasReading (s.pending ++ line) reading × FindsReading limits s reading f
