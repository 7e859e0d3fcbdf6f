-- Who may have a session in a house.
use Rattle.std.specs.Prelude.{◌≡◌, ◌≢◌, ℕ, ◌≤◌, List, [], ◌∷◌, ◌++◌, Bool, true, false, ◌&&◌, ◌||◌, nat_le}
use Rattle.std.specs.Prelude.{length, map, All, AllPairs, Contains, Option, position}
use Rattle.std.specs.List.{list_all}
use Rattle.std.specs.Str.{bytes_eq}
pub use Rattle.nesl_lex.specs.Lexemes.{is_digit}
use Rattle.nesl_session_meaning.specs.declared.limits.Limits.{Limits}
use Rattle.nesl_session_meaning.specs.State.{empty_log}
use Rattle.nesl_house.specs.declared.roster.NewFault.{NewFault}
use Rattle.nesl_house.specs.declared.roster.NewFault.TheVariants.{Count, Name, Twice, Memory}
use Rattle.nesl_house.specs.Runs.{Account}

-- a to z
abbrev pub is_small_letter : ℕ → Bool
is_small_letter b = nat_le 97 b && nat_le b 122

abbrev pub begins_with_letter : List ℕ → Bool
begins_with_letter [] = false
begins_with_letter (b ∷ bs) = is_small_letter b

-- a user name: a letter, then letters and digits, at most 16 in all
abbrev pub is_user_name : List ℕ → Bool
is_user_name name =
    begins_with_letter name && (nat_le (length name) 16 && list_all (λ b. is_small_letter b || is_digit b) name)

-- user names, no two of which are the same
pub record AreUsers (names : List (List ℕ)) : Type 0 where
  pub named : All (λ name. is_user_name name ≡ true) names
  pub apart : AllPairs (λ one other. one ≢ other) names

-- a number of users that a house may have
abbrev pub IsCount : ℕ → Type 0
IsCount n = (1 ≤ n) × (n ≤ 64)

-- a roster: 1 to 64 users
pub record IsRoster (names : List (List ℕ)) : Type 0 where
  pub count : IsCount (length names)
  pub users : AreUsers names

-- the place of a user in a roster
abbrev pub place_of : List (List ℕ) → List ℕ → Option ℕ
place_of roster user = position (λ name. bytes_eq name user) roster

-- Why a list of names is refused. The count is checked first. Then, place by place, the name is checked, and whether it
-- is at an earlier place too. Memory can run out only if the list is a roster.
pub data IsRefused (names : List (List ℕ)) : NewFault → Type 0 where
  bad_count : ¬ IsCount (length names) → IsRefused names Count
  bad_name :
      (before after : List (List ℕ)) (it : List ℕ)
      → IsCount (length names) → names ≡ before ++ it ∷ after → AreUsers before
      → is_user_name it ≡ false → IsRefused names (Name (length before))
  stands_twice :
      (before after : List (List ℕ)) (it : List ℕ)
      → IsCount (length names) → names ≡ before ++ it ∷ after → AreUsers before
      → is_user_name it ≡ true → Contains before it → IsRefused names (Twice (length before))
  no_memory_left : IsRoster names → IsRefused names Memory

-- the house in which each of these users has an empty session
abbrev pub new_house : Limits → List (List ℕ) → List Account
new_house limits names = map (λ name. record { name = name; session = empty_log limits }) names
