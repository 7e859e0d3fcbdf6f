-- The laws of a device hold of what a crash may have left.
use Rattle.std.proofs.Common.{◌≡◌, ◌⊎◌, ◌≤◌, ◌+◌, ℕ, List, [], ◌∷◌, length, inl, inr, arith}
use Rattle.nesl_keep_file.specs.Events.{Event}
use Rattle.nesl_keep_file.specs.Crash.{may_leave, left_since}

pub counts_now : (events : List Event) (t : ℕ) (c : List ℕ) → may_leave events c → left_since events t c
counts_now [] t c now = now
counts_now (event ∷ earlier) t c now = inl now

pub only_now : (events : List Event) (c : List ℕ) → left_since events (length events) c → may_leave events c
only_now [] c left = left
only_now (event ∷ earlier) c (inl now) = now
only_now (event ∷ earlier) c (inr (le, left)) = absurd (omega arith)
