-- The service that is offered, and the keys.
use Rattle.std.specs.Option.{is_none, is_some}
use Rattle.std.specs.Prelude.{◌≡◌, ℕ, ◌+◌, Bool, ◌||◌, ◌*◌, ◌^◌, ◌∷◌, [], List, Option, Some, None, map, nat_lt}
use Rattle.std.specs.Prelude.{option_map, unwrap_or, if◌then◌else◌}
use Rattle.std.specs.declared.net.IpAddr.{IpAddr}
use Rattle.std.specs.Net.Addr.{IsV4And, ipv4_octets}
use Rattle.std.specs.Net.Grammar.{IsIpText}
use Rattle.nesl_words.specs.Words.{Service, Task, a_grading, a_request, a_service, some_keys}
use Rattle.nesl_words.specs.Wanted.{grading_wanted, keys_wanted, service_wanted}
use Rattle.nesl_cli.specs.declared.run.Offer.{Offer}
use Rattle.nesl_cli.specs.declared.run.Offered.{Offered}
use Rattle.nesl_cli.specs.declared.run.Offered.TheVariants as offered

-- the service that is offered, and to which users, in order
abbrev pub service_offered : Offer → Service
service_offered offer = service_wanted offer.service

abbrev pub users_offered : Offer → List (List ℕ)
users_offered offer = map (λ user. user.now) offer.users.items

-- what the caller is to do, and for which users, in order
abbrev pub task_handed : Offered → Task
task_handed (offered.Service offer) = a_service (service_offered offer)
task_handed (offered.Keys offer) = some_keys (keys_wanted offer.keys)
task_handed (offered.Request offer) = a_request (option_map (λ path. path.now) offer.path)
task_handed (offered.Grade offer) = a_grading (grading_wanted offer.grading)

abbrev pub users_handed : Offered → List (List ℕ)
users_handed (offered.Service offer) = users_offered offer
users_handed (offered.Keys offer) = map (λ user. user.now) offer.users.items
users_handed (offered.Request offer) = map (λ word. word.now) offer.words.items
users_handed (offered.Grade offer) = map (λ submission. submission.now) offer.submissions.items

-- the port for lines is listened to: no header names the users of the page, or they have keys
abbrev pub has_lines : Service → Bool
has_lines service = is_none service.user_header || is_some service.keys

-- the address where the port for lines is listened to, if it isn't this machine's own: `--bind`, if users have keys
abbrev pub lines_host : Service → Option (List ℕ)
lines_host service = if is_some service.keys then service.bind else None

-- that of the page's port: none where a header names users, since anybody could set it
abbrev pub page_host : Service → Option (List ℕ)
page_host service = if is_none service.user_header then lines_host service else None

-- the IP address is the one that this text writes, or else the one by which this machine reaches itself
abbrev pub IsHost : Option (List ℕ) → IpAddr → Type 0
IsHost None ip = IsV4And ip (λ ip. ipv4_octets ip ≡ 127 ∷ 0 ∷ 0 ∷ 1 ∷ [])
IsHost (Some text) ip = IsIpText text ip

-- this text writes no IP address
abbrev pub IsNoHost : Option (List ℕ) → Type 0
IsNoHost None = ⊥
IsNoHost (Some text) = (ip : IpAddr) → ¬ (IsIpText text ip)

-- the number of threads for lines: one for each user, and one more
abbrev pub line_threads : Service → (users : ℕ) → ℕ
line_threads service users = if has_lines service then users + 1 else 0

-- the number of helpers: none where none is given, or where 32 bits can't hold it
abbrev pub workers_in : Option ℕ → ℕ
workers_in workers = if nat_lt (unwrap_or workers 0) (2 ^ 32) then unwrap_or workers 0 else 0

-- seconds in nanoseconds
abbrev pub nanos_in : ℕ → ℕ
nanos_in seconds = seconds * 1000000000
