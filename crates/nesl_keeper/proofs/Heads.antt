-- The numbers of a head are found again.
use Rattle.std.proofs.Common.{◌-◌, ◌≡◌, ◌≢◌, ◌⊎◌, ⊎_elim, ◌+◌, ◌<◌, ◌==◌, ◌^◌, ℕ, Bool, cond, not, List, [], ◌∷◌, ◌++◌, Option, Some, None, length, take, drop, position, ltb, refl, sym, ap, ◌∙◌, subst, arith, codes, decimal, length-append, append_assoc}
use Rattle.std.specs.List.{position_or_len}
use Rattle.std.specs.Char.{digit_value}
use Rattle.std.specs.Str.Parse.{AllDigits}
use Rattle.std.proofs.Math.Seq.{take-append_seam, drop-append-add}
use Rattle.std.proofs.lemmas.List.{take_all, length-drop}
use Rattle.std.proofs.lemmas.Bool.{ne_eqb, lt-ltb}
use Rattle.std.proofs.lemmas.Fmt.{decimal_is_IsNumeral}
use Rattle.std.proofs.lemmas.Option.{none-some, same_Some}
use Rattle.nesl_session_meaning.specs.declared.limits.Limits.{Limits}
use Rattle.nesl_session_meaning.specs.Step.{most_recorded}
use Rattle.nesl_keeper.specs.declared.head.Numbers.{Numbers}
use Rattle.nesl_keeper.specs.Files.{head_text, IsNoHead}

-- a digit is no blank
not_blank : (c : ℕ) → digit_value c < 10 → c ≢ 32
not_blank c h e = let there : digit_value 32 < 10 = subst (λ (x : ℕ). digit_value x < 10) e h in omega (arith, there)

-- the first blank is the one after the digits
blank_after : (digits more : List ℕ) → AllDigits 10 digits → position_or_len (λ b. b == 32) (digits ++ 32 ∷ more) ≡ length digits
blank_after [] more d = refl
blank_after (c ∷ cs) more d =
    let n = position_or_len (λ b. b == 32) (cs ++ 32 ∷ more) in
    ap (λ b. cond (not b) (1 + n) 0) (ne_eqb c 32 (not_blank c d.0)) ∙ omega (arith, blank_after cs more d.1)

position_at : (p : ℕ → Bool) (xs : List ℕ) (n : ℕ) → position_or_len p xs ≡ n → n < length xs → position p xs ≡ Some n
position_at p xs n first few =
    ap (λ (k : ℕ). cond (ltb k (length xs)) (Some k) None) first ∙ ap (λ b. cond b (Some n) None) (lt-ltb n (length xs) few)

-- what comes after the version
abbrev pub numbers_text : (base cleared : ℕ) → List ℕ
numbers_text base cleared = decimal base ++ codes " " ++ decimal cleared

numbers_right : (base cleared : ℕ) → numbers_text base cleared ≡ decimal base ++ (32 ∷ decimal cleared)
numbers_right base cleared = append_assoc (decimal base) (32 ∷ []) (decimal cleared)

-- what comes after the version of a head
pub after_version : (head rest : List ℕ) (base cleared : ℕ) → rest ≡ drop 11 head → head ≡ head_text base cleared → rest ≡ numbers_text base cleared
after_version head rest base cleared cut is = cut ∙ ap (drop 11) is

-- the blank in it
pub blank_there : (rest : List ℕ) (base cleared : ℕ) → base < 2 ^ 64 → rest ≡ numbers_text base cleared → position (λ b. b == 32) rest ≡ Some (length (decimal base))
blank_there rest base cleared small is =
    let digits = decimal base in
    let few : length digits < length (digits ++ (32 ∷ decimal cleared)) = omega (arith, length-append digits (32 ∷ decimal cleared)) in
    ap (position (λ b. b == 32)) (is ∙ numbers_right base cleared)
    ∙ position_at (λ b. b == 32) (digits ++ (32 ∷ decimal cleared)) (length digits) (blank_after digits (decimal cleared) (decimal_is_IsNumeral base small).0.1) few

-- what is before that, and what is after it
pub before_blank : (rest : List ℕ) (base cleared n : ℕ) → n ≡ length (decimal base) → rest ≡ numbers_text base cleared → take n rest ≡ decimal base
before_blank rest base cleared n count is = ap (λ (k : ℕ). take k rest) count ∙ ap (take (length (decimal base))) (is ∙ numbers_right base cleared) ∙ take-append_seam (decimal base) (32 ∷ decimal cleared)

pub after_blank : (rest : List ℕ) (base cleared n : ℕ) → n ≡ length (decimal base) → rest ≡ numbers_text base cleared → take (length rest - (n + 1)) (drop (n + 1) rest) ≡ decimal cleared
after_blank rest base cleared n count is =
    take_all (length rest - (n + 1)) (drop (n + 1) rest) (omega (arith, length-drop (n + 1) rest))
    ∙ ap (λ (k : ℕ). drop (k + 1) rest) count ∙ ap (drop (length (decimal base) + 1)) (is ∙ numbers_right base cleared) ∙ drop-append-add (decimal base) (32 ∷ decimal cleared) 1

-- the numbers that are found in a line are those of the head that it is
abbrev pub FindsNumbers : List ℕ → Option Numbers → Type 0
FindsNumbers head found = (base cleared : ℕ) → base < 2 ^ 64 → cleared < 2 ^ 64 → head ≡ head_text base cleared → found ≡ Some (record { base = base; cleared = cleared })

-- a line without numbers is no head
pub no_numbers : (limits : Limits) (head : List ℕ) (found : Option Numbers) → limits.session_work < 2 ^ 64 → FindsNumbers head found → found ≡ None → IsNoHead limits head
no_numbers limits head found small finds none base cleared work lines is =
    none-some (record { base = base; cleared = cleared }) (sym none ∙ finds base cleared (omega (arith, small, work)) (omega (arith, lines)) is)

-- nor is one with greater numbers than a session may have
pub too_great : (limits : Limits) (head : List ℕ) (found : Option Numbers) (numbers : Numbers) → limits.session_work < 2 ^ 64 → FindsNumbers head found → found ≡ Some numbers
    → (limits.session_work < numbers.base) ⊎ (most_recorded < numbers.cleared) → IsNoHead limits head
too_great limits head found numbers small finds some great base cleared work lines is =
    let same = same_Some _ _ (sym some ∙ finds base cleared (omega (arith, small, work)) (omega (arith, lines)) is) in
    ⊎_elim (λ more. omega (arith, more, work, ap (λ (n : Numbers). n.base) same)) (λ more. omega (arith, more, lines, ap (λ (n : Numbers). n.cleared) same)) great

-- nor is one that isn't the head with these numbers
pub other_head : (limits : Limits) (head : List ℕ) (found : Option Numbers) (numbers : Numbers) → limits.session_work < 2 ^ 64 → FindsNumbers head found → found ≡ Some numbers
    → head ≢ head_text numbers.base numbers.cleared → IsNoHead limits head
other_head limits head found numbers small finds some other base cleared work lines is =
    let same = same_Some _ _ (sym some ∙ finds base cleared (omega (arith, small, work)) (omega (arith, lines)) is) in
    other (is ∙ sym (ap (λ (n : Numbers). head_text n.base n.cleared) same))
