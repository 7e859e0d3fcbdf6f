-- Characters, by what values are read as.
use Rattle.std.proofs.Common.{◌≡◌, ℕ, Some, None, false, refl, ap}
use Rattle.nesl_values.specs.Tree.{ValueTree, int, boolean, character, pair, seq, tagged}
use Rattle.nesl_values.specs.Parts.{as_char}
use Rattle.nesl_reply.specs.Values.{is_quotable, code_of}

a_char : (t : ValueTree) (c : ℕ) → Some c ≡ as_char t → t ≡ character c
a_char (int m) c h = absurd (cc h)
a_char (boolean d) c h = absurd (cc h)
a_char (character d) c h = let same : c ≡ d = cc h in cc
a_char (pair l r) c h = absurd (cc h)
a_char (seq ts) c h = absurd (cc h)
a_char (tagged k t) c h = absurd (cc h)

pub quotable : (t : ValueTree) (c : ℕ) → Some c ≡ as_char t → is_quotable t ≡ is_quotable (character c)
quotable t c h = ap is_quotable (a_char t c h)

pub not_quotable : (t : ValueTree) → None ≡ as_char t → is_quotable t ≡ false
not_quotable (int m) h = refl
not_quotable (boolean d) h = refl
not_quotable (character d) h = absurd (cc h)
not_quotable (pair l r) h = refl
not_quotable (seq ts) h = refl
not_quotable (tagged k t) h = refl

pub code : (t : ValueTree) (c : ℕ) → Some c ≡ as_char t → code_of t ≡ c
code t c h = ap code_of (a_char t c h)

pub no_code : (t : ValueTree) → None ≡ as_char t → code_of t ≡ 0
no_code (int m) h = refl
no_code (boolean d) h = refl
no_code (character d) h = absurd (cc h)
no_code (pair l r) h = refl
no_code (seq ts) h = refl
no_code (tagged k t) h = refl
