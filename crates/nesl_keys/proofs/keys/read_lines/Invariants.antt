use Rattle.std.proofs.Common.{map, take}
use Rattle.nesl_keys.specs.Entries.{AreApart, Lists}
use Rattle.nesl_keys.specs.Shown.{kept_as}
use Rattle.nesl_keys.proofs.keys.read_lines.Given as goal

abbrev pub invariant-loop-place : goal.invariant-loop-place
invariant-loop-place l = record {
  lists : Lists (map (λ line. line.now) (take l.place l.lines)) (map kept_as l.entries.items);
  apart : AreApart (map kept_as l.entries.items);
}
