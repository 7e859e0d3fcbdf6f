-- The names of users.
use Rattle.std.specs.Prelude.{ℕ, List, [], ◌∷◌, Bool, false, ◌&&◌, ◌||◌, nat_le, length}
use Rattle.std.specs.List.{list_all}

-- a to z
abbrev pub is_small_letter : ℕ → Bool
is_small_letter b = nat_le 97 b && nat_le b 122

-- 0 to 9
abbrev pub is_digit : ℕ → Bool
is_digit b = nat_le 48 b && nat_le b 57

abbrev pub begins_with_letter : List ℕ → Bool
begins_with_letter [] = false
begins_with_letter (b ∷ bs) = is_small_letter b

-- a user name: a letter, then letters and digits, at most 16 in all
abbrev pub is_user_name : List ℕ → Bool
is_user_name name =
    begins_with_letter name && (nat_le (length name) 16 && list_all (λ b. is_small_letter b || is_digit b) name)
