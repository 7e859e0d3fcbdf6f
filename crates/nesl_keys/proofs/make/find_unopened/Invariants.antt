use Rattle.std.proofs.Common.{ℕ, ◌<◌, get_or}
use Rattle.nesl_keys.specs.declared.make.Newcomer.{Newcomer}
use Rattle.nesl_keys.specs.Entries.{Opens}
use Rattle.nesl_keys.specs.Making.{issue_of}
use Rattle.nesl_keys.specs.Shown.{listed_in}
use Rattle.nesl_keys.proofs.make.find_unopened.Given as goal

abbrev pub invariant-loop-place : goal.invariant-loop-place
invariant-loop-place l =
    (k : ℕ) (d : Newcomer) → k < l.place
    → Opens (listed_in l.keys) (issue_of (get_or l.newcomers k d)).name (issue_of (get_or l.newcomers k d)).key
