-- The event that a call is, with its outcome.
use Rattle.nesl_keep_file.specs.Events.{Event, opened, written, replaced, synced}
use Rattle.nesl_keep_file.specs.declared.calls.Outcome.{Outcome}
use Rattle.nesl_keep_file.specs.declared.calls.Call.{Call}
use Rattle.nesl_keep_file.specs.declared.calls.Call.TheVariants.{Open, Write, Replace, Sync}

abbrev pub event_of : Call → Outcome → Event
event_of (Open bytes) outcome = opened bytes.now
event_of (Write at bytes) outcome = written at bytes.now outcome
event_of (Replace bytes) outcome = replaced bytes.now outcome
event_of Sync outcome = synced outcome
