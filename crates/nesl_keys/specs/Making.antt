-- New keys, and what each user gets.
use Rattle.std.specs.Prelude.{◌≡◌, ℕ, List, [], ◌∷◌, ◌++◌, All}
use Rattle.std.specs.List.{flat_map}
use Rattle.hex.specs.Hex.{encode_lower}
use Rattle.nesl_keys.specs.Secrets.{digest_text}
use Rattle.nesl_keys.specs.Entries.{Listed, IsFile, Opens, entry_line, version}
use Rattle.nesl_keys.specs.declared.make.Newcomer.{Newcomer}

-- what a user gets, and the salt of their entry
pub record Issue : Type 0 where
  pub name : List ℕ
  pub salt : List ℕ
  pub key : List ℕ

-- the key and the salt are the random bytes in hex
abbrev pub issue_of : Newcomer → Issue
issue_of newcomer = record {
  name = newcomer.name.now;
  salt = encode_lower newcomer.salt;
  key = encode_lower newcomer.key;
}

-- how a user is listed who gets a key
abbrev pub listed_from : Issue → Listed
listed_from issue = record { name = issue.name; salt = issue.salt; digest = digest_text issue.salt issue.key }

-- the line of an entry with its LF
abbrev pub listing : Listed → List ℕ
listing listed = entry_line listed ++ 10 ∷ []

-- a file that lists these users
abbrev pub keys_file : List Newcomer → List ℕ
keys_file newcomers =
    (version ++ 10 ∷ []) ++ flat_map (λ newcomer. listing (listed_from (issue_of newcomer))) newcomers

-- the address of the page, `#`, the name, a dot and the key
abbrev pub link : (page name key : List ℕ) → List ℕ
link page name key = page ++ 35 ∷ name ++ 46 ∷ key

-- `NAME KEY LINK`
abbrev pub handout : (page : List ℕ) → Issue → List ℕ
handout page issue = issue.name ++ 32 ∷ issue.key ++ 32 ∷ link page issue.name issue.key ++ 10 ∷ []

abbrev pub handouts : (page : List ℕ) → List Newcomer → List ℕ
handouts page newcomers = flat_map (λ newcomer. handout page (issue_of newcomer)) newcomers

-- each user has the key that they get
abbrev pub AllOpen : List Listed → List Newcomer → Type 0
AllOpen listed newcomers = All (λ newcomer. Opens listed (issue_of newcomer).name (issue_of newcomer).key) newcomers

-- The lines tell each user their key. The file is a file of keys, and in it each of them has this key.
pub record IsMade (page : List ℕ) (newcomers : List Newcomer) (told file : List ℕ) : Type 0 where
  pub handed : told ≡ handouts page newcomers
  pub written : file ≡ keys_file newcomers
  pub listed : List Listed
  pub reads : IsFile file listed
  pub opens : AllOpen listed newcomers

-- The line tells the user their key. The file is a file of keys, and in it the user has this key.
pub record IsRenewed (page : List ℕ) (newcomer : Newcomer) (told file : List ℕ) : Type 0 where
  pub handed : told ≡ handout page (issue_of newcomer)
  pub listed : List Listed
  pub reads : IsFile file listed
  pub opens : Opens listed newcomer.name.now (encode_lower newcomer.key)
