use Rattle.std.specs.Prelude.{List}
use Rattle.nesl_keep_file.specs.Events.{Event}
use Rattle.nesl_keep_file.specs.declared.history.History.{History}

-- what the file was sent, the newest first
abbrev pub events : History → List Event
events history = history.record.events
