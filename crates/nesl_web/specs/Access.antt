-- The requests that are allowed: those for this page that come from no page of another host.
use Rattle.std.specs.Prelude.{◌≡◌, ℕ, ◌==◌, ◌&&◌, ◌||◌, List, [], ◌∷◌, ◌++◌, Bool, true, codes, cond}
use Rattle.std.specs.Prelude.{bytes_eq, drop, length, slice_index, take}
use Rattle.std.specs.Char.{is_ascii_digit}
use Rattle.std.specs.List.{list_all, list_any}
use Rattle.http1.specs.Text.{eq_ignore_case}

-- the names and values of a head's fields, in order
abbrev pub Fields : Type 0
Fields = List (List ℕ × List ℕ)

-- the values of the fields with this name, in upper or lower case
abbrev pub values_of : List ℕ → Fields → List (List ℕ)
values_of name [] = []
values_of name (field ∷ fields) =
    cond (eq_ignore_case field.0 name) (field.1 ∷ values_of name fields) (values_of name fields)

-- empty, or a colon and digits
abbrev pub is_port : List ℕ → Bool
is_port rest = (length rest == 0) || ((slice_index rest 0 == 58) && list_all is_ascii_digit (drop 1 rest))

-- a host with this name, in upper or lower case, and maybe a port
abbrev pub is_called : (host name : List ℕ) → Bool
is_called host name = eq_ignore_case (take (length name) host) name && is_port (drop (length name) host)

-- a host with a name by which each machine calls itself, or with one that was given
abbrev pub is_known : (given : List (List ℕ)) (host : List ℕ) → Bool
is_known given host =
    is_called host (codes "127.0.0.1") || is_called host (codes "localhost") || is_called host (codes "[::1]")
    || list_any (is_called host) given

-- an origin of this host and port
abbrev pub is_of : (host origin : List ℕ) → Bool
is_of host origin = bytes_eq origin (codes "http://" ++ host) || bytes_eq origin (codes "https://" ++ host)

-- The request has one host, and its name is known. Each origin is of that host and port.
abbrev pub IsAllowed : (given hosts origins : List (List ℕ)) → Type 0
IsAllowed given [] origins = ⊥
IsAllowed given (host ∷ []) origins =
    (is_known given host ≡ true) × (list_all (is_of host) origins ≡ true)
IsAllowed given (host ∷ other ∷ more) origins = ⊥
