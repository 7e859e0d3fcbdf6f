-- Numbers of two digits.
use Rattle.std.proofs.Common.{◌≡◌, ◌≤◌, ◌<◌, ◌+◌, ◌/◌, ◌%◌, ◌^◌, ℕ, List, [], ◌∷◌, ◌++◌, ap, sym, ◌∙◌, append_assoc, arith, decimal}
use Rattle.std.proofs.lemmas.Fmt.{decimal_digit, decimal_step}

-- both digits were written
pub two_digits : (o p q : List ℕ) (n : ℕ) → n < 2 ^ 64 → 10 ≤ n → p ≡ o ++ decimal (n / 10) → q ≡ p ++ decimal (n % 10) → q ≡ o ++ decimal n
two_digits o p q n small large e f =
    let last : decimal (n % 10) ≡ (48 + n % 10) ∷ [] = decimal_digit (n % 10) (omega arith) in
    let whole : decimal n ≡ decimal (n / 10) ++ decimal (n % 10) = decimal_step n large small ∙ ap (λ z. decimal (n / 10) ++ z) (sym last) in
    f ∙ ap (λ z. z ++ decimal (n % 10)) e ∙ append_assoc o (decimal (n / 10)) (decimal (n % 10)) ∙ ap (λ z. o ++ z) (sym whole)
