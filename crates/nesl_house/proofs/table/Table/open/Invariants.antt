use Rattle.std.proofs.Common.{◌≡◌, ◌≤◌, length, take, map}
use Rattle.std.specs.Vec.{vec_capacity}
use Rattle.nesl_house.proofs.table.Table.open.Given as goal

abbrev pub invariant-loop-name : goal.invariant-loop-name
invariant-loop-name l = record {
  names : map (λ v. v.items) l.names.items ≡ map (λ v. v.items) (take l.name-index l.roster);
  count : length l.names.items ≡ l.name-index;
  room : length l.roster ≤ vec_capacity l.names;
}
