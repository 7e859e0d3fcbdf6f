-- What a file of keys lists.
use Rattle.std.specs.Prelude.{◌≡◌, ◌≢◌, ℕ, ◌+◌, ◌==◌, List, [], ◌∷◌, ◌++◌, true, Option, codes}
use Rattle.std.specs.Prelude.{length, map, AllPairs, Contains, find, IsSomeAnd}
use Rattle.std.specs.List.{slice_split}
use Rattle.std.specs.Str.{bytes_eq}
use Rattle.nesl_keys.specs.Names.{is_user_name}
use Rattle.nesl_keys.specs.Secrets.{digest_text, is_hex_text}
use Rattle.nesl_keys.specs.declared.keys.KeysFault.{KeysFault}
use Rattle.nesl_keys.specs.declared.keys.KeysFault.TheVariants.{Version, Line, Twice, Nobody, Memory}

-- a user who is listed, a salt, and the digest of this salt and the user's key
pub record Listed : Type 0 where
  pub name : List ℕ
  pub salt : List ℕ
  pub digest : List ℕ

-- a user name, 32 hex digits and 64 hex digits
pub record IsListed (listed : Listed) : Type 0 where
  pub name : is_user_name listed.name ≡ true
  pub salt : is_hex_text 32 listed.salt ≡ true
  pub digest : is_hex_text 64 listed.digest ≡ true

-- the line of an entry: `NAME SALT DIGEST`
abbrev pub entry_line : Listed → List ℕ
entry_line listed = listed.name ++ 32 ∷ listed.salt ++ 32 ∷ listed.digest

-- what a line lists: nobody if it is empty or begins with `#`, and otherwise the user of its entry
pub data Says : List ℕ → List Listed → Type 0 where
  blank : Says [] []
  comment : (text : List ℕ) → Says (35 ∷ text) []
  entry : (listed : Listed) → IsListed listed → Says (entry_line listed) (listed ∷ [])

-- this is none of them
abbrev pub SaysNothing : List ℕ → Type 0
SaysNothing line = (says : List Listed) → ¬ Says line says

-- what lines list together
pub data Lists : List (List ℕ) → List Listed → Type 0 where
  ends : Lists [] []
  goes_on :
      (line : List ℕ) (lines : List (List ℕ)) (says more : List Listed)
      → Says line says → Lists lines more → Lists (line ∷ lines) (says ++ more)

-- the names of users
abbrev pub names_of : List Listed → List (List ℕ)
names_of listed = map (λ one. one.name) listed

-- no user is listed twice
abbrev pub AreApart : List Listed → Type 0
AreApart listed = AllPairs (λ one other. one ≢ other) (names_of listed)

-- the users of a line are added
pub record IsAdded (line : List ℕ) (old new : List Listed) : Type 0 where
  pub says : List Listed
  pub said : Says line says
  pub added : new ≡ old ++ says
  pub apart : AreApart old → AreApart new

-- the first line of a file
abbrev pub version : List ℕ
version = codes "pazkindu keys 1"

-- the lines of a text; after a last LF there is an empty one
abbrev pub lines_of : List ℕ → List (List ℕ)
lines_of text = slice_split (λ b. b == 10) text

-- A file of keys: the version, and then lines that list these users, of whom there is one at least. Nobody is listed
-- twice.
pub record IsFile (bytes : List ℕ) (listed : List Listed) : Type 0 where
  pub lines : List (List ℕ)
  pub text : lines_of bytes ≡ version ∷ lines
  pub lists : Lists lines listed
  pub some : listed ≢ []
  pub apart : AreApart listed

-- what is wrong with a line, after lines that list these users
pub data IsWrongAt (number : ℕ) (line : List ℕ) (listed : List Listed) : KeysFault → Type 0 where
  no_entry : SaysNothing line → IsWrongAt number line listed (Line number)
  listed_before :
      (one : Listed) → Says line (one ∷ []) → Contains (names_of listed) one.name
      → IsWrongAt number line listed (Twice number)
  no_memory_here : IsWrongAt number line listed Memory

-- The first wrong line of those after the version. Lines are counted from 1, and the version is the first one.
pub data IsWrong (lines : List (List ℕ)) : KeysFault → Type 0 where
  wrong_at :
      (before after : List (List ℕ)) (line : List ℕ) (listed : List Listed) (fault : KeysFault)
      → lines ≡ before ++ line ∷ after → Lists before listed → AreApart listed
      → IsWrongAt (length before + 2) line listed fault → IsWrong lines fault

-- why a file is refused
pub data IsRefused (bytes : List ℕ) : KeysFault → Type 0 where
  bad_version :
      (first : List ℕ) (lines : List (List ℕ)) → lines_of bytes ≡ first ∷ lines → first ≢ version
      → IsRefused bytes Version
  bad_line :
      (lines : List (List ℕ)) (fault : KeysFault) → lines_of bytes ≡ version ∷ lines → IsWrong lines fault
      → IsRefused bytes fault
  nobody_listed :
      (lines : List (List ℕ)) → lines_of bytes ≡ version ∷ lines → Lists lines [] → IsRefused bytes Nobody
  no_memory_left : IsRefused bytes Memory

-- the entry of a user
abbrev pub entry_of : List Listed → List ℕ → Option Listed
entry_of listed name = find (λ one. bytes_eq one.name name) listed

-- The user is listed, with the digest of this key.
abbrev pub Opens : List Listed → (name key : List ℕ) → Type 0
Opens listed name key = IsSomeAnd (entry_of listed name) (λ one. digest_text one.salt key ≡ one.digest)
