use Rattle.std.proofs.Common.{◌≡◌, ◌<◌, ℕ, get_or}
use Rattle.nesl_keys.proofs.secret.difference_of.Given as goal

abbrev pub invariant-loop-place : goal.invariant-loop-place
invariant-loop-place l = record {
  same : l.difference ≡ 0 → (k : ℕ) → k < l.place → get_or l.one k 0 ≡ get_or l.other k 0;
  none : ((k : ℕ) → k < l.place → get_or l.one k 0 ≡ get_or l.other k 0) → l.difference ≡ 0;
}
