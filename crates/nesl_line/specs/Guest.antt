-- What is replied to the lines of one connection, which are one user's.
use Rattle.std.specs.Prelude.{◌≡◌, ℕ, ◌+◌, List, [], ◌∷◌, Option, Some, None, Bool, true, false, map, sum_by}
use Rattle.std.specs.Prelude.{if◌then◌else◌}
use Rattle.std.specs.List.{AllByRecursion}
use Rattle.nesl_session_meaning.specs.declared.limits.Limits.{Limits}
use Rattle.nesl_session_meaning.specs.State.{Log, recorded_lines}
use Rattle.nesl_session_meaning.specs.Response.{no_memory, no_user, busy, is_memory}
use Rattle.nesl_session_meaning.specs.Solo.{SessionAnswers}
use Rattle.nesl_house.specs.declared.lease.Receipt.{Receipt}
use Rattle.nesl_house.specs.Roster.{place_of}
use Rattle.nesl_house.specs.Script.{Event, lines_of, replies_of, kept_events}
use Rattle.nesl_line.specs.Lines.{with_feed}
use Rattle.nesl_line.specs.Conversation.{IsUserLine}

-- a user line of the user who has this place in the roster
pub record NamesPlace (roster : List (List ℕ)) (line : List ℕ) (place : ℕ) : Type 0 where
  pub user : List ℕ
  pub named : IsUserLine line user
  pub stands : place_of roster user ≡ Some place

-- A user was seated, whose session was `had` then. The first line names the user and gets itself back. The others are a
-- script in which no one else speaks. Each got `fault memory`, or is one of the kept lines, which the session alone
-- answers so. The kept lines turn the session into `has`, and `recorded` is the number of recorded lines.
pub record Visits
    (roster : List (List ℕ)) (limits : Limits) (place recorded : ℕ) (had has : Log) (lines texts : List (List ℕ))
    : Type 0 where
  pub first : List ℕ
  pub script : List Event
  pub names : NamesPlace roster first place
  pub came : lines ≡ first ∷ lines_of script
  pub told : texts ≡ with_feed first ∷ map (λ reply. reply.bytes) (replies_of script)
  pub own : AllByRecursion (λ e. e.user ≡ names.user) script
  pub memory : AllByRecursion (λ e. is_memory e.reply ≡ true → e.reply ≡ no_memory) script
  pub limits_are : had.limits ≡ limits
  pub alone : SessionAnswers had (lines_of (kept_events names.user script))
      (replies_of (kept_events names.user script)) has
  pub recorded_are : recorded ≡ sum_by (λ reply. if reply.recorded then 1 else 0) (replies_of script)
  pub grown : recorded_lines has ≡ recorded_lines had + recorded

-- What was heard on a connection, by its receipt and by whether nothing more was heard.
pub data IsHeard (roster : List (List ℕ)) (limits : Limits)
    : Option Receipt → (over : Bool) → (lines texts : List (List ℕ)) → Type 0 where
  -- no line came
  silence : IsHeard roster limits None false [] []
  -- the first line names no user of the roster, and nobody is seated
  stranger :
      (line : List ℕ) → ((place : ℕ) → ¬ NamesPlace roster line place)
      → IsHeard roster limits None true (line ∷ []) (no_user.bytes ∷ [])
  -- the first line names a user whose session is taken out, and nobody is seated
  away :
      (line : List ℕ) (place : ℕ) → NamesPlace roster line place
      → IsHeard roster limits None true (line ∷ []) (busy.bytes ∷ [])
  -- a user was seated, and has the receipt
  seated :
      (receipt : Receipt) (had has : Log) (lines texts : List (List ℕ))
      → Visits roster limits receipt.place receipt.recorded had has lines texts
      → IsHeard roster limits (Some receipt) false lines texts
