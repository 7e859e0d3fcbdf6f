-- What a request for a session says of its user.
use Rattle.std.specs.Prelude.{ℕ, ◌<◌, ◌==◌, List, [], ◌∷◌, Option, None, Some, length, if◌then◌else◌}
use Rattle.httparse.specs.Grammar.{ReadsRequest, RequestHead}

-- What is taken from the head with which the bytes begin. It is `nothing` if they begin with no head of at most 64
-- fields.
pub data Takes {A : Type 0} (bytes : List ℕ) (part : RequestHead → A) (nothing : A) : A → Type 0 where
  from_head :
      (head : RequestHead) (rest : List ℕ) → ReadsRequest bytes head rest → Takes bytes part nothing (part head)
  from_no_head :
      ((head : RequestHead) (rest : List ℕ) → ReadsRequest bytes head rest → 64 < length head.fields)
      → Takes bytes part nothing nothing

-- what follows the first question mark
abbrev pub query_in : List ℕ → Option (List ℕ)
query_in [] = None
query_in (b ∷ bs) = if b == 63 then Some bs else query_in bs

abbrev pub query_of : RequestHead → Option (List ℕ)
query_of head = query_in head.target
