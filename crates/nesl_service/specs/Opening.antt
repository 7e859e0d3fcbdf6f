-- The front of a stream whose first line may name a user.
use Rattle.std.specs.Prelude.{ℕ, ◌+◌, ◌==◌, List, [], ◌∷◌, Bool, true, false, ◌&&◌, ◌||◌, codes, nat_lt}
use Rattle.std.specs.Prelude.{slice_index, if◌then◌else◌}
use Rattle.std.specs.Char.{is_ascii_digit, is_ascii_lowercase}
use Rattle.nesl_service.specs.declared.opening.Opening.{Opening}
use Rattle.nesl_service.specs.declared.opening.Opening.TheVariants.{Word, Name, Return, Whole, Refused}

-- no line with a valid user name begins so
abbrev pub is_refused : Opening → Bool
is_refused (Word count) = false
is_refused (Name count) = false
is_refused Return = false
is_refused Whole = false
is_refused Refused = true

-- `count` bytes of `user `, and another byte
abbrev pub after_word : ℕ → ℕ → Opening
after_word count byte =
    if nat_lt count 5 && slice_index (codes "user ") count == byte
    then (if nat_lt (count + 1) 5 then Word (count + 1) else Name 0)
    else Refused

-- `user `, `count` bytes of a name, and another byte
abbrev pub after_name : ℕ → ℕ → Opening
after_name count byte =
    if byte == 13 then Return
    else
    (if (is_ascii_lowercase byte || nat_lt 0 count && is_ascii_digit byte) && nat_lt count 16 then Name (count + 1)
    else Refused)

-- another byte of a first line, or of what follows it
abbrev pub opening_after : Opening → ℕ → Opening
opening_after (Word count) byte = if byte == 10 then Whole else after_word count byte
opening_after (Name count) byte = if byte == 10 then Whole else after_name count byte
opening_after Return byte = if byte == 10 then Whole else Refused
opening_after Whole byte = Whole
opening_after Refused byte = Refused

-- the bytes up to the first with which no line with a valid user name begins: all bytes if there is none
abbrev pub front_of : Opening → List ℕ → List ℕ
front_of opening [] = []
front_of opening (b ∷ bs) = if is_refused opening then [] else b ∷ front_of (opening_after opening b) bs
