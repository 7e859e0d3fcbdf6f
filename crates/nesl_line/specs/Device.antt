-- What callers see of a device.
use Rattle.nesl_line.specs.declared.device.Device.{Device}
use Rattle.nesl_line.specs.Tally.{ReadTally, WriteTally}

-- its reader or writer
abbrev pub device_inner : {T : Type 0} → Device T → T
device_inner d = d.inner

-- the counts of the reads
abbrev pub device_reads : {T : Type 0} → Device T → ReadTally
device_reads d = record { made = d.reads; failed = d.failed }

-- the counts of the writes and the flushes
abbrev pub device_writes : {T : Type 0} → Device T → WriteTally
device_writes d = record { failed = d.failed; stalled = d.stalled; flushed = d.flushed; unflushed = d.unflushed }
