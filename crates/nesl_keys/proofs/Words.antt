-- Lines, cut at their last word.
use Rattle.std.proofs.Common.{◌≡◌, ℕ, ◌+◌, List, ◌∷◌, ◌++◌, length, take, drop, refl, sym, ap, ◌∙◌, arith, suc, true, codes, length-append}
use Rattle.std.proofs.lemmas.List.{append_cancel_left, take_at, drop_at}
use Rattle.std.proofs.lemmas.Bool.{and_parts, eqb-true}
use Rattle.std.specs.List.{list_all}
use Rattle.nesl_keys.specs.Names.{is_user_name}
use Rattle.nesl_keys.specs.Secrets.{is_hex_digit, is_hex_text}
use Rattle.nesl_keys.specs.Entries.{Listed, IsListed, entry_line}
use Rattle.nesl_keys.specs.Admission.{IsKeyLine, keyed_line, user_line}

-- texts with ends of one length are the same only if both parts are
same_tail : (a b c d : List ℕ) → length b ≡ length d → a ++ b ≡ c ++ d → (a ≡ c) × (b ≡ d)
same_tail a b c d l e =
    let whole : length a + length b ≡ length c + length d =
    sym (length-append a b) ∙ ap (λ x. length x) e ∙ length-append c d in
    let even : length c ≡ length a = omega (arith, whole, l) in (
      sym (take_at a b (length a) refl) ∙ ap (λ x. take (length a) x) e ∙ take_at c d (length a) even,
      sym (drop_at a b (length a) refl) ∙ ap (λ x. drop (length a) x) e ∙ drop_at c d (length a) even,
    )

-- lines with last words of one length are the same only if both parts are
pub same_words : (a b c d : List ℕ) → length b ≡ length d → a ++ 32 ∷ b ≡ c ++ 32 ∷ d → (a ≡ c) × (b ≡ d)
same_words a b c d l e =
    let parts = same_tail a (32 ∷ b) c (32 ∷ d) (ap (λ n. suc n) l) e in
    (parts.0, ap (λ x. drop 1 x) parts.1)

-- a text of n hex digits is n long
pub hex_length : (n : ℕ) (text : List ℕ) → is_hex_text n text ≡ true → length text ≡ n
hex_length n text e = eqb-true (length text) n (and_parts _ (list_all is_hex_digit text) e).0

-- a line has one name and one key
pub one_key_line :
    (line name key other word : List ℕ) → line ≡ keyed_line name key → length key ≡ 32 → IsKeyLine other word
    → line ≡ keyed_line other word → (name ≡ other) × (key ≡ word)
one_key_line line name key other word here long are there =
    let even : length key ≡ length word = long ∙ sym (hex_length 32 word are.key_is) in
    let parts = same_words (user_line name) key (user_line other) word even (sym here ∙ there) in
    (append_cancel_left (codes "user ") name other parts.0, parts.1)

-- a line has one entry
pub one_entry :
    (line : List ℕ) (one other : Listed) → line ≡ entry_line one → length one.salt ≡ 32 → length one.digest ≡ 64
    → line ≡ entry_line other → IsListed other → IsListed one
one_entry line one other here salt digest there is =
    let last = same_words (one.name ++ 32 ∷ one.salt) one.digest (other.name ++ 32 ∷ other.salt) other.digest
    (digest ∙ sym (hex_length 64 other.digest is.digest)) (sym here ∙ there) in
    let front = same_words one.name one.salt other.name other.salt
    (salt ∙ sym (hex_length 32 other.salt is.salt)) last.0 in
    record {
      name = ap is_user_name front.0 ∙ is.name;
      salt = ap (λ x. is_hex_text 32 x) front.1 ∙ is.salt;
      digest = ap (λ x. is_hex_text 64 x) last.1 ∙ is.digest;
    }
