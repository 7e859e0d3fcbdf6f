-- Lines of a session, worked by hand.
use Rattle.std.specs.Prelude.{◌≡◌, ◌<◌, ℕ, false, ◌++◌, List, [], ◌∷◌, map, codes}
use Rattle.nesl_reply.specs.declared.fault.Fault.TheVariants as faults
use Rattle.nesl_session_meaning.specs.declared.limits.Limits.{Limits}
use Rattle.nesl_session_meaning.specs.State.{State, empty}
use Rattle.nesl_session_meaning.specs.Response.{Reply, fault_reply}
use Rattle.nesl_session_meaning.specs.Step.{Step, is_reset, most_recorded, recorded_by_reset}
use Rattle.nesl_session_meaning.specs.Solo.{SessionRuns}

-- ample limits
abbrev pub ample : Limits
ample = record {
  line_work = 1000;
  session_work = 1000;
  elements = 100;
  transcript_lines = 100;
  transcript_bytes = 1000;
}

-- under these limits, a fresh session answers these lines by replies with these texts, and has this work left
-- afterwards
abbrev pub AreAnswered : Limits → List (List ℕ) → List (List ℕ) → ℕ → Type 0
AreAnswered limits lines texts left =
    (replies : List Reply) × (s : State) × SessionRuns limits (empty limits) lines replies s
    × (map (λ r. r.bytes) replies ≡ map (λ text. text ++ codes "\n") texts) × (s.work_left ≡ left)

abbrev pub IsAnswered : Limits → List ℕ → List ℕ → ℕ → Type 0
IsAnswered limits line text left = AreAnswered limits (line ∷ []) (text ∷ []) left

abbrev pub no_token : Type 0
no_token = IsAnswered ample (codes "1 @ 2;") (codes "fault lexical at 2 (work 0)") 1000

abbrev pub no_tree : Type 0
no_tree = IsAnswered ample (codes "1; 2;") (codes "fault syntax (work 0)") 1000

abbrev pub comment : Type 0
comment = IsAnswered ample (codes "% note %") (codes "ok") 1000

abbrev pub names_of_none : Type 0
names_of_none = IsAnswered ample (codes ":names") (codes "names:") 1000

-- the reply shows the state before the line itself
abbrev pub budget_of_none : Type 0
budget_of_none =
    IsAnswered ample (codes ":budget")
    (codes "budget: work 1000, elements 0 of 100, lines 0 of 100, bytes 0 of 1000") 1000

abbrev pub unknown_name : Type 0
unknown_name = IsAnswered ample (codes "x;") (codes "fault unknown at 0..1 (work 0)") 1000

abbrev pub small_sum : Type 0
small_sum = IsAnswered ample (codes "1 + 1;") (codes "it = 2 : int (work 3, depth 3)") 997

abbrev pub sum_over_the_work_of_a_line : Type 0
sum_over_the_work_of_a_line =
    IsAnswered (record ample { line_work = 2 }) (codes "1 + 1;") (codes "fault work (work 2)") 998

abbrev pub sum_without_room : Type 0
sum_without_room =
    IsAnswered (record ample { elements = 0 }) (codes "1 + 1;") (codes "fault elements (work 3)") 997

abbrev pub sum_in_two_parts : Type 0
sum_in_two_parts =
    AreAnswered ample (codes "1 +\\" ∷ codes "1;" ∷ []) (codes "more" ∷ codes "it = 2 : int (work 3, depth 3)" ∷ []) 997

-- in the body of a function, `it` is no variable of the top level
abbrev pub it_in_a_body : Type 0
it_in_a_body =
    AreAnswered ample (codes "1 + 1;" ∷ codes "function g(x) = it;" ∷ [])
    (codes "it = 2 : int (work 3, depth 3)" ∷ codes "fault unknown at 16..18 (work 0)" ∷ []) 997

-- a reset gives no work back
abbrev pub reset_after_a_sum : Type 0
reset_after_a_sum =
    AreAnswered (record ample { session_work = 5 }) (codes "1 + 1;" ∷ codes ":reset" ∷ codes "1 + 1;" ∷ [])
    (codes "it = 2 : int (work 3, depth 3)" ∷ codes "reset: lines 1" ∷ codes "fault work (work 2)" ∷ []) 0

-- any line but a reset
abbrev pub no_room_for_a_line : Type 0
no_room_for_a_line =
    (line : List ℕ) → is_reset line ≡ false
    → IsAnswered (record ample { transcript_lines = 0 }) line (codes "fault transcript (work 0)") 1000

-- a session that has recorded as many lines as it may
abbrev pub reset_at_the_limit : Type 0
reset_at_the_limit =
    (s : State) → most_recorded < recorded_by_reset s
    → Step ample s (codes ":reset") (fault_reply faults.Transcript false) s
