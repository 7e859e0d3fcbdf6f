use Rattle.std.proofs.Common.{◌≡◌, ℕ, ◌++◌, List, false, take, drop}
use Rattle.nesl_service.specs.Opening.{front_of, is_refused}
use Rattle.nesl_service.proofs.front.Front.note.Given as goal

abbrev pub invariant-loop-place : goal.invariant-loop-place
invariant-loop-place g l =
    (l.self.stream ≡ l.initial.self.stream) × (is_refused l.self.opening ≡ false)
    × ((rest : List ℕ) → front_of l.initial.self.opening (l.bytes ++ rest) ≡ take l.place l.bytes ++ front_of l.self.opening (drop l.place l.bytes ++ rest))
