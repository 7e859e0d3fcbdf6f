-- Who is let in, and what a service hears of them.
use Rattle.std.specs.Prelude.{◌≡◌, ◌≢◌, ℕ, List, [], ◌∷◌, ◌++◌, true, codes, map}
use Rattle.nesl_keys.specs.Names.{is_user_name}
use Rattle.nesl_keys.specs.Secrets.{is_secret}
use Rattle.nesl_keys.specs.Entries.{Listed, Opens}
use Rattle.nesl_keys.specs.Shown.{listed_in}
use Rattle.nesl_keys.specs.declared.sign_in.SignIn.{SignIn}
use Rattle.nesl_keys.specs.declared.sign_in.SignIn.TheVariants.{Word, Keys, Header, Address}
use Rattle.nesl_keys.specs.declared.sign_in.Visitor.{Visitor}
use Rattle.nesl_keys.specs.declared.sign_in.TurnedAway.{TurnedAway}
use Rattle.nesl_keys.specs.declared.sign_in.TurnedAway.TheVariants as away

-- what a connection came with: its first line, the values of the headers that are looked at, and its query
pub record Came : Type 0 where
  pub first : List ℕ
  pub headers : List (List ℕ)
  pub query : List ℕ

abbrev pub came_with : Visitor → Came
came_with visitor = record {
  first = visitor.first_line.now;
  headers = map (λ value. value.now) visitor.headers.now;
  query = visitor.query.now;
}

-- the line that names a user
abbrev pub user_line : List ℕ → List ℕ
user_line name = codes "user " ++ name

-- the same, with a space and a key
abbrev pub keyed_line : (name key : List ℕ) → List ℕ
keyed_line name key = user_line name ++ 32 ∷ key

-- a user name, and 32 hex digits
pub record IsKeyLine (name key : List ℕ) : Type 0 where
  pub name_is : is_user_name name ≡ true
  pub key_is : is_secret key ≡ true

-- The first line has the key of a user who is listed. The service hears the line that names this user.
pub record IsKeyed (listed : List Listed) (first heard : List ℕ) : Type 0 where
  pub name : List ℕ
  pub key : List ℕ
  pub are : IsKeyLine name key
  pub said : first ≡ keyed_line name key
  pub opens : Opens listed name key
  pub hears : heard ≡ user_line name

-- A user is named, and the first line names the same one. The service hears the line that names this user.
pub record IsNamed (Names : List ℕ → Type 0) (first heard : List ℕ) : Type 0 where
  pub name : List ℕ
  pub is : is_user_name name ≡ true
  pub named : Names name
  pub said : first ≡ user_line name
  pub hears : heard ≡ user_line name

-- there is one header, with this value
abbrev pub ByHeader : Came → List ℕ → Type 0
ByHeader came name = came.headers ≡ name ∷ []

-- the query is `user=NAME`
abbrev pub ByAddress : Came → List ℕ → Type 0
ByAddress came name = came.query ≡ codes "user=" ++ name

-- The connection is let in, and the service hears this line.
abbrev pub Admits : Came → SignIn → (heard : List ℕ) → Type 0
Admits came Word heard = heard ≡ came.first
Admits came (Keys keys) heard = IsKeyed (listed_in keys.now) came.first heard
Admits came Header heard = IsNamed (ByHeader came) came.first heard
Admits came Address heard = IsNamed (ByAddress came) came.first heard

-- why nobody is let in by a key
pub data IsUnkeyed (listed : List Listed) (first : List ℕ) : TurnedAway → Type 0 where
  no_key_line :
      ((name key : List ℕ) → IsKeyLine name key → first ≢ keyed_line name key) → IsUnkeyed listed first away.Line
  wrong_key :
      (name key : List ℕ) → IsKeyLine name key → first ≡ keyed_line name key → ¬ Opens listed name key
      → IsUnkeyed listed first away.Key

-- why nobody is let in who has to be named elsewhere than in the first line
pub data IsUnnamed (missing : TurnedAway) (Names : List ℕ → Type 0) (first : List ℕ) : TurnedAway → Type 0 where
  nobody : ((name : List ℕ) → is_user_name name ≡ true → ¬ Names name) → IsUnnamed missing Names first missing
  other :
      (name : List ℕ) → is_user_name name ≡ true → Names name → first ≢ user_line name
      → IsUnnamed missing Names first away.Other

-- why a connection is not let in
abbrev pub IsTurnedAway : Came → SignIn → TurnedAway → Type 0
IsTurnedAway came Word fault = ⊥
IsTurnedAway came (Keys keys) fault = IsUnkeyed (listed_in keys.now) came.first fault
IsTurnedAway came Header fault = IsUnnamed away.Header (ByHeader came) came.first fault
IsTurnedAway came Address fault = IsUnnamed away.Address (ByAddress came) came.first fault
