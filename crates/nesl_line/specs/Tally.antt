-- How often a reader and a writer were called, how often that failed, and how much was written and not yet flushed.
use Rattle.std.specs.Prelude.{ℕ, ◌+◌, ◌-◌, ◌^◌, ◌<◌, ◌≤◌, ◌==◌, ◌&&◌, ◌⊎◌, List, Result, Ok, Err}
use Rattle.std.specs.Prelude.{length, min, max, nat_lt, if◌then◌else◌}

-- n and k more, but the count stays at 2^64 - 1. Below that it is n + k, by the law `counts_rise`.
abbrev pub risen_by : ℕ → ℕ → ℕ
risen_by k n = max n (min (n + k) (2 ^ 64 - 1))

-- the count has risen, or is at its end
abbrev pub Rose : ℕ → ℕ → Type 0
Rose old new = (old < new) ⊎ (2 ^ 64 - 1 ≤ new)

-- the number of reads that were made, and of those that failed
pub record ReadTally : Type 0 where
  pub made : ℕ
  pub failed : ℕ

-- one read more
abbrev pub after_read : {A E : Type 0} → ReadTally → Result A E → ReadTally
after_read tally (Ok n) = record tally { made = risen_by 1 tally.made }
after_read tally (Err e) = record tally { made = risen_by 1 tally.made; failed = risen_by 1 tally.failed }

-- The number of writes and flushes that failed, of writes of some bytes that took none, and of flushes that went well.
-- Also the number of bytes written since the last flush that went well: these are unflushed.
pub record WriteTally : Type 0 where
  pub failed : ℕ
  pub stalled : ℕ
  pub flushed : ℕ
  pub unflushed : ℕ

-- one write more
abbrev pub after_write : {E : Type 0} → WriteTally → List ℕ → Result ℕ E → WriteTally
after_write tally bytes (Ok n) =
    if n == 0 && nat_lt 0 (length bytes) then record tally { stalled = risen_by 1 tally.stalled }
    else record tally { unflushed = risen_by n tally.unflushed }
after_write tally bytes (Err e) = record tally { failed = risen_by 1 tally.failed }

-- n flushes that went well, with nothing written after the last; then no byte is unflushed, unless n is 0
abbrev pub flushed_by : ℕ → WriteTally → WriteTally
flushed_by n tally =
    record tally { flushed = risen_by n tally.flushed; unflushed = if n == 0 then tally.unflushed else 0 }

-- one flush more
abbrev pub after_flush : {A E : Type 0} → WriteTally → Result A E → WriteTally
after_flush tally (Ok _) = flushed_by 1 tally
after_flush tally (Err e) = record tally { failed = risen_by 1 tally.failed }
