use Rattle.std.proofs.Common.{◌≡◌, length, map}
use Rattle.nesl_builtins.specs.Named.{look_up}
use Rattle.nesl_builtins.proofs.builtin.entry.Given as goal

abbrev pub invariant-loop-table : goal.invariant-loop-table
invariant-loop-table l = look_up (map (λ e. (e.0.now, e.1)) l.table) l.name ≡ look_up (map (λ e. (e.0.now, e.1)) l.initial.table) l.name

abbrev pub decreases-loop-table : goal.decreases-loop-table
decreases-loop-table l = length l.table
