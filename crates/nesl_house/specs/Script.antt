-- What users say, and the replies that they get.
use Rattle.std.specs.Prelude.{ℕ, List, not, filter, map}
use Rattle.std.specs.Str.{bytes_eq}
use Rattle.nesl_session_meaning.specs.Response.{Reply, is_memory}

-- a user said this line, and got this reply
pub record Event : Type 0 where
  pub user : List ℕ
  pub line : List ℕ
  pub reply : Reply

abbrev pub lines_of : List Event → List (List ℕ)
lines_of events = map (λ e. e.line) events

abbrev pub replies_of : List Event → List Reply
replies_of events = map (λ e. e.reply) events

-- the lines of this user that were kept, with their replies, in order: a line that is refused because memory ran out
-- counts as not said
abbrev pub kept_events : List ℕ → List Event → List Event
kept_events user events = filter (λ e. not (is_memory e.reply)) (filter (λ e. bytes_eq e.user user) events)
