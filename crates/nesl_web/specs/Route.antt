-- The requests that are accepted: their head is valid HTTP, and they are allowed.
use Rattle.std.specs.Prelude.{ℕ, List, codes, map}
use Rattle.httparse.specs.Grammar.{ReadsRequest, RequestHead}
use Rattle.httparse.specs.Spans.{name_and_value}
use Rattle.nesl_web.specs.Access.{IsAllowed, values_of}
use Rattle.nesl_web.specs.declared.route.Route.{Route}
use Rattle.nesl_web.specs.declared.route.Route.TheVariants.{Page, Methods, Session, Refused}

-- these bytes begin with the head of a request
pub record HasHead (bytes : List ℕ) : Type 0 where
  pub head : RequestHead
  pub rest : List ℕ
  pub reads : ReadsRequest bytes head rest

-- the values of the fields with this name in a head
abbrev pub values_in : List ℕ → RequestHead → List (List ℕ)
values_in name head = values_of name (map name_and_value head.fields)

-- these bytes begin with the head of a request that is allowed
pub record BeginAllowed (given : List (List ℕ)) (bytes : List ℕ) : Type 0 where
  pub head : RequestHead
  pub rest : List ℕ
  pub reads : ReadsRequest bytes head rest
  pub allowed : IsAllowed given (values_in (codes "Host") head) (values_in (codes "Origin") head)

-- a request gets another route than a refusal only if it is allowed
abbrev pub LetsIn : List (List ℕ) → List ℕ → Route → Type 0
LetsIn given bytes (Page file) = BeginAllowed given bytes
LetsIn given bytes Methods = BeginAllowed given bytes
LetsIn given bytes (Session accept_key head_bytes) = BeginAllowed given bytes
LetsIn given bytes (Refused refusal) = Unit {0}
