-- Keys, salts and digests, as texts of hex digits.
use Rattle.std.specs.Prelude.{ℕ, List, ◌++◌, Bool, ◌&&◌, ◌||◌, ◌==◌, nat_le, length}
use Rattle.std.specs.List.{list_all}
use Rattle.sha2.specs.Sha256.{sha256}
use Rattle.hex.specs.Hex.{encode_lower}
use Rattle.nesl_keys.specs.Names.{is_digit}

-- 0 to 9 and a to f
abbrev pub is_hex_digit : ℕ → Bool
is_hex_digit b = is_digit b || (nat_le 97 b && nat_le b 102)

-- n hex digits
abbrev pub is_hex_text : ℕ → List ℕ → Bool
is_hex_text n text = (length text == n) && list_all is_hex_digit text

-- a key is 32 hex digits, and so is a salt
abbrev pub is_secret : List ℕ → Bool
is_secret text = is_hex_text 32 text

-- the digest of a salt and a key: SHA-256 of the salt's digits and then the key's, in hex digits
abbrev pub digest_text : (salt key : List ℕ) → List ℕ
digest_text salt key = encode_lower (sha256 (salt ++ key))
