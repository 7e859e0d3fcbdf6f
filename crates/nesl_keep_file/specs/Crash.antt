-- What a file has after some events, the newest first, and what a crash may leave of it.
use Rattle.std.specs.Prelude.{◌≡◌, ◌⊎◌, ◌≤◌, ◌+◌, ℕ, List, [], ◌∷◌, ◌++◌, length, take, drop}
use Rattle.nesl_keep.specs.Device.{Torn}
use Rattle.nesl_keep_file.specs.Events.{Event, opened, written, replaced, synced}
use Rattle.nesl_keep_file.specs.declared.calls.Outcome.TheVariants.{Done, Failed}

-- what the file has after an event, if it had `old`; after a call that failed, nothing is asked of it any more
abbrev pub seen_after : Event → List ℕ → List ℕ
seen_after (opened bytes) old = bytes
seen_after (written at bytes Done) old = take at old ++ bytes ++ drop (at + length bytes) old
seen_after (written at bytes Failed) old = old
seen_after (replaced bytes Done) old = bytes
seen_after (replaced bytes Failed) old = old
seen_after (synced outcome) old = old

abbrev pub seen : List Event → List ℕ
seen [] = []
seen (event ∷ earlier) = seen_after event (seen earlier)

abbrev pub faults_of : Event → ℕ
faults_of (opened bytes) = 0
faults_of (written at bytes Done) = 0
faults_of (written at bytes Failed) = 1
faults_of (replaced bytes Done) = 0
faults_of (replaced bytes Failed) = 1
faults_of (synced Done) = 0
faults_of (synced Failed) = 1

-- how many calls failed
abbrev pub faults : List Event → ℕ
faults [] = 0
faults (event ∷ earlier) = faults_of event + faults earlier

-- What a crash may leave after an event, if before it a crash might have left what is in `old`. A sync that went well
-- leaves what the file has, unless a call failed before it: then the system may have forgotten what it had to write.
abbrev pub left_after : Event → (seen : List ℕ) (faults : ℕ) (old : List ℕ → Type 0) → List ℕ → Type 0
left_after (opened bytes) seen faults old c = c ≡ bytes
left_after (written at bytes outcome) seen faults old c = (d : List ℕ) × old d × Torn at (length bytes) d c
left_after (replaced bytes Done) seen faults old c = c ≡ bytes
left_after (replaced bytes Failed) seen faults old c = old c ⊎ (c ≡ bytes)
left_after (synced Done) seen faults old c = old c × (faults ≡ 0 → c ≡ seen)
left_after (synced Failed) seen faults old c = old c

-- what a crash may leave now
abbrev pub may_leave : List Event → List ℕ → Type 0
may_leave [] c = c ≡ []
may_leave (event ∷ earlier) c = left_after event (seen earlier) (faults earlier) (may_leave earlier) c

-- What a crash may have left at some moment from t on. A moment is the number of events until then. A crash in a call
-- leaves what one before the call might leave, or one after it.
abbrev pub left_since : List Event → ℕ → List ℕ → Type 0
left_since [] t c = may_leave [] c
left_since (event ∷ earlier) t c = may_leave (event ∷ earlier) c ⊎ ((t ≤ length earlier) × left_since earlier t c)
