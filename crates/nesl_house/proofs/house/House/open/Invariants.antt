use Rattle.std.proofs.Common.{◌≡◌, ◌≤◌, length, take, map}
use Rattle.std.specs.Vec.{vec_capacity}
use Rattle.nesl_house.specs.Runs.{AllReplay}
use Rattle.nesl_house.specs.Roster.{new_house}
use Rattle.nesl_house.proofs.house.House.open.Given as goal

abbrev pub invariant-loop-name : goal.invariant-loop-name
invariant-loop-name l = record {
  accounts : l.users.items ≡ new_house l.limits (map (λ v. v.items) (take l.name-index l.roster));
  replayed : AllReplay l.users.items;
  room : length l.roster ≤ vec_capacity l.users;
}
