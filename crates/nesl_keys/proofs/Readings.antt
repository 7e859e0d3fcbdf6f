-- A file lists its users in one way.
use Rattle.std.proofs.Common.{◌≡◌, ℕ, List, [], ◌∷◌, ◌++◌, true, false, ◌&&◌, ◌||◌, nat_le, length, drop, get_or, refl, sym, ap, ◌∙◌, subst}
use Rattle.std.specs.List.{list_all}
use Rattle.std.proofs.lemmas.Bool.{and_parts}
use Rattle.nesl_keys.specs.Names.{is_digit, is_small_letter, is_user_name}
use Rattle.nesl_keys.specs.Entries.{Listed, IsListed, entry_line, Says, blank, comment, entry, Lists, ends, goes_on, IsFile}
use Rattle.nesl_keys.proofs.Words.{hex_length, same_words}

-- the line of an entry begins with a letter
entry_letter :
    (name salt digest : List ℕ) → is_user_name name ≡ true
    → is_small_letter (get_or (name ++ 32 ∷ salt ++ 32 ∷ digest) 0 0) ≡ true
entry_letter [] salt digest is = absurd (cc)
entry_letter (b ∷ name) salt digest is =
    (and_parts (is_small_letter b)
    (nat_le (length (b ∷ name)) 16 && list_all (λ x. is_small_letter x || is_digit x) (b ∷ name)) is).0

-- so no other line is one
no_entry_line :
    (line : List ℕ) (listed : Listed) → IsListed listed → line ≡ entry_line listed
    → is_small_letter (get_or line 0 0) ≡ false → ⊥
no_entry_line line listed is e none =
    let yes' : is_small_letter (get_or (entry_line listed) 0 0) ≡ true =
    entry_letter listed.name listed.salt listed.digest is.name in
    let no' : true ≡ false =
    sym yes' ∙ ap (λ (l : List ℕ). is_small_letter (get_or l 0 0)) (sym e) ∙ none in
    absurd (cc)

-- two entries with one line are the same
one_listed : (one other : Listed) → IsListed one → IsListed other → entry_line one ≡ entry_line other → one ≡ other
one_listed one other is too same =
    let last = same_words (one.name ++ 32 ∷ one.salt) one.digest (other.name ++ 32 ∷ other.salt) other.digest
    (hex_length 64 one.digest is.digest ∙ sym (hex_length 64 other.digest too.digest)) same in
    let front = same_words one.name one.salt other.name other.salt
    (hex_length 32 one.salt is.salt ∙ sym (hex_length 32 other.salt too.salt)) last.0 in
    let named : List ℕ → Listed = λ n. record { name = n; salt = one.salt; digest = one.digest } in
    let salted : List ℕ → Listed = λ s. record { name = other.name; salt = s; digest = one.digest } in
    let digested : List ℕ → Listed = λ d. record { name = other.name; salt = other.salt; digest = d } in
    ap named front.0 ∙ ap salted front.1 ∙ ap digested last.1

says_nobody :
    (line : List ℕ) (says : List Listed) → Says line says → is_small_letter (get_or line 0 0) ≡ false → says ≡ []
says_nobody line says blank none = refl
says_nobody line says (comment text) none = refl
says_nobody line says (entry listed is) none = absurd (no_entry_line (entry_line listed) listed is refl none)

says_one :
    (line : List ℕ) (says : List Listed) (listed : Listed) → Says line says → IsListed listed
    → line ≡ entry_line listed → says ≡ listed ∷ []
says_one line says listed blank is e = absurd (no_entry_line [] listed is e refl)
says_one line says listed (comment text) is e = absurd (no_entry_line (35 ∷ text) listed is e refl)
says_one line says listed (entry other too) is e = ap (λ l. l ∷ []) (one_listed other listed too is e)

says_alike : (line : List ℕ) (one other : List Listed) → Says line one → Says line other → one ≡ other
says_alike line one other blank too = sym (says_nobody [] other too refl)
says_alike line one other (comment text) too = sym (says_nobody (35 ∷ text) other too refl)
says_alike line one other (entry listed is) too = sym (says_one (entry_line listed) other listed too is refl)

lists_alike : (lines : List (List ℕ)) (one other : List Listed) → Lists lines one → Lists lines other → one ≡ other
lists_alike lines one other ends ends = refl
lists_alike lines one other (goes_on line rest says more s l) (goes_on line' rest' says' more' s' l') =
    ap (λ a. a ++ more) (says_alike line says says' s s') ∙ ap (λ b. says' ++ b) (lists_alike rest more more' l l')

pub files_alike : (bytes : List ℕ) (one other : List Listed) → IsFile bytes one → IsFile bytes other → one ≡ other
files_alike bytes one other file too =
    let same : file.lines ≡ too.lines = ap (λ ls. drop 1 ls) (sym file.text ∙ too.text) in
    let P : List (List ℕ) → Type 0 = λ ls. Lists ls other in
    lists_alike file.lines one other file.lists (subst P (sym same) too.lists)
