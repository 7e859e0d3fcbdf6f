use Rattle.std.proofs.Common.{◌≡◌, ◌≤◌, length, take}
use Rattle.std.specs.Vec.{vec_capacity}
use Rattle.nesl_house.specs.Runs.{Runs}
use Rattle.nesl_house.specs.Said.{events_of}
use Rattle.nesl_house.proofs.house.House.run_as.Given as goal

abbrev pub invariant-loop-said : goal.invariant-loop-said
invariant-loop-said g l = record {
  answered : length l.answers.items ≡ l.said-index;
  room : length l.script ≤ vec_capacity l.answers;
  runs : Runs l.fn.self (events_of (take l.said-index l.script) l.answers.items) l.self;
}
