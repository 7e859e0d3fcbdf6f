-- What a service hears of a connection.
use Rattle.std.specs.Prelude.{ℕ, ◌-◌, ◌==◌, List, [], ◌∷◌, ◌++◌, Bool, false, ◌&&◌, Option, None, Some, codes}
use Rattle.std.specs.Prelude.{drop, length, map, nat_lt, slice_index, take, if◌then◌else◌}
use Rattle.std.specs.Str.{bytes_eq}
use Rattle.nesl_keys.specs.Names.{is_user_name}
use Rattle.nesl_keys.specs.Secrets.{digest_text, is_secret}
use Rattle.nesl_keys.specs.Entries.{Listed, entry_of}
use Rattle.nesl_keys.specs.Shown.{listed_in}
use Rattle.nesl_keys.specs.Admission.{keyed_line, user_line}
use Rattle.nesl_keys.specs.declared.sign_in.SignIn.{SignIn}
use Rattle.nesl_keys.specs.declared.sign_in.SignIn.TheVariants.{Word, Keys, Header, Address}
use Rattle.nesl_keys.specs.declared.admitted.Door.{Door}
use Rattle.nesl_keys.specs.declared.porter.Porter.{Porter}
use Rattle.nesl_keys.specs.declared.porter.Stage.{Stage}
use Rattle.nesl_keys.specs.declared.porter.Stage.TheVariants.{Listening, Passing, Ending}

-- a CR at the end of a line is no part of it
abbrev pub without_return : List ℕ → List ℕ
without_return line =
    if nat_lt 0 (length line) && slice_index line (length line - 1) == 13 then take (length line - 1) line else line

-- the digest of the key is the one in the list
abbrev pub is_key_of : Option Listed → (key : List ℕ) → Bool
is_key_of None key = false
is_key_of (Some one) key = bytes_eq (digest_text one.salt key) one.digest

-- the line is `user NAME KEY`, with this user's name and key
abbrev pub has_key : List Listed → (line name key : List ℕ) → Bool
has_key listed line name key =
    is_user_name name && is_secret key && bytes_eq line (keyed_line name key) && is_key_of (entry_of listed name) key

-- of a line with a key, the name is what stands between `user ` and the last 33 bytes, and the key is the last 32
abbrev pub name_in : List ℕ → List ℕ
name_in line = drop 5 (take (length line - 33) line)

abbrev pub key_in : List ℕ → List ℕ
key_in line = drop (length line - 32) line

-- the user whose key is in the line
abbrev pub user_by_key : List Listed → (line : List ℕ) → Option (List ℕ)
user_by_key listed line =
    if has_key listed line (name_in line) (key_in line) then Some (name_in line) else None

-- the user of this name, if the line names the same one
abbrev pub user_named : (name line : List ℕ) → Option (List ℕ)
user_named name line = if is_user_name name && bytes_eq line (user_line name) then Some name else None

-- the user whom the only header names, if the line does
abbrev pub user_by_header : List (List ℕ) → (line : List ℕ) → Option (List ℕ)
user_by_header [] line = None
user_by_header (name ∷ []) line = user_named name line
user_by_header (name ∷ other ∷ more) line = None

-- the user whom the query `user=NAME` names, if the line does
abbrev pub user_by_address : (query line : List ℕ) → Option (List ℕ)
user_by_address query line =
    if bytes_eq query (codes "user=" ++ drop 5 query) then user_named (drop 5 query) line else None

-- Whom a first line lets in. Where users are known by their word, no line is looked at.
abbrev pub user_by : SignIn → (headers : List (List ℕ)) → (query line : List ℕ) → Option (List ℕ)
user_by Word headers query line = None
user_by (Keys keys) headers query line = user_by_key (listed_in keys.now) line
user_by Header headers query line = user_by_header headers line
user_by Address headers query line = user_by_address query line

abbrev pub user_let_in : Door → (line : List ℕ) → Option (List ℕ)
user_let_in door line = user_by door.sign_in (map (λ value. value.now) door.headers.now) door.query.now line

-- In place of a first line, the service hears the line that names the user who is let in, and then the rest. If nobody
-- is, it hears an empty line and nothing more.
abbrev pub told : Option (List ℕ) → (rest : List ℕ) → List ℕ
told None rest = 10 ∷ []
told (Some name) rest = user_line name ++ 10 ∷ rest

-- What the service hears when these bytes come and some of the first line came before them. Nobody is let in by a first
-- line without LF. Of a connection that says nothing it hears nothing.
abbrev pub heard_after : Door → (before bytes : List ℕ) → List ℕ
heard_after door before [] = if length before == 0 then [] else 10 ∷ []
heard_after door before (b ∷ bs) =
    if b == 10 then told (user_let_in door (without_return before)) bs else heard_after door (before ++ b ∷ []) bs

-- what the service hears of a connection with these bytes: all of them where users are known by their word
abbrev pub heard_by : SignIn → Door → List ℕ → List ℕ
heard_by Word door bytes = bytes
heard_by (Keys keys) door bytes = heard_after door [] bytes
heard_by Header door bytes = heard_after door [] bytes
heard_by Address door bytes = heard_after door [] bytes

abbrev pub heard : Door → List ℕ → List ℕ
heard door bytes = heard_by door.sign_in door bytes

-- what is still to be given of the line that the service is to hear
abbrev pub left_of : Porter → List ℕ
left_of porter = drop porter.given porter.line.items

-- what the service hears when these bytes come, by what came before
abbrev pub heard_at : Stage → Porter → List ℕ → List ℕ
heard_at Listening porter bytes = heard_after porter.door porter.line.items bytes
heard_at Passing porter bytes = left_of porter ++ bytes
heard_at Ending porter bytes = left_of porter

abbrev pub heard_of : Porter → List ℕ → List ℕ
heard_of porter bytes = heard_at porter.stage porter bytes

-- the line that the service is to hear of the user who is let in
abbrev pub line_at : Stage → List ℕ → Option (List ℕ)
line_at Listening line = None
line_at Passing line = Some line
line_at Ending line = None
