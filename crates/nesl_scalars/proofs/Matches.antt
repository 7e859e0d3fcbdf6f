-- Arguments by what they are read as.
use Rattle.std.proofs.Common.{◌≡◌, ℕ, ℤ, Bool, Some, None, refl}
use Rattle.nesl_values.specs.Tree.{ValueTree, int, boolean, character, pair, seq, tagged}
use Rattle.nesl_values.specs.Parts.{as_int, as_bool, as_char}
use Rattle.nesl_scalars.specs.declared.binary.Binary.{Binary}
use Rattle.nesl_scalars.specs.Outcomes.{undefined}
use Rattle.nesl_scalars.specs.Scalars.{binary}

pub an_int : (t : ValueTree) (n : ℤ) → Some n ≡ as_int t → t ≡ int n
an_int (int m) n h = let same : n ≡ m = cc h in cc
an_int (boolean b) n h = absurd (cc h)
an_int (character c) n h = absurd (cc h)
an_int (pair l r) n h = absurd (cc h)
an_int (seq ts) n h = absurd (cc h)
an_int (tagged k t) n h = absurd (cc h)

pub a_bool : (t : ValueTree) (b : Bool) → Some b ≡ as_bool t → t ≡ boolean b
a_bool (int m) b h = absurd (cc h)
a_bool (boolean d) b h = let same : b ≡ d = cc h in cc
a_bool (character c) b h = absurd (cc h)
a_bool (pair l r) b h = absurd (cc h)
a_bool (seq ts) b h = absurd (cc h)
a_bool (tagged k t) b h = absurd (cc h)

pub a_char : (t : ValueTree) (c : ℕ) → Some c ≡ as_char t → t ≡ character c
a_char (int m) c h = absurd (cc h)
a_char (boolean d) c h = absurd (cc h)
a_char (character d) c h = let same : c ≡ d = cc h in cc
a_char (pair l r) c h = absurd (cc h)
a_char (seq ts) c h = absurd (cc h)
a_char (tagged k t) c h = absurd (cc h)

-- a number goes with numbers alone, and so for the others
pub no_int : (f : Binary) (a : ℤ) (t : ValueTree) → None ≡ as_int t → binary f (int a) t ≡ undefined
no_int f a (int m) h = absurd (cc h)
no_int f a (boolean b) h = refl
no_int f a (character c) h = refl
no_int f a (pair l r) h = refl
no_int f a (seq ts) h = refl
no_int f a (tagged k t) h = refl

pub no_bool : (f : Binary) (a : Bool) (t : ValueTree) → None ≡ as_bool t → binary f (boolean a) t ≡ undefined
no_bool f a (int m) h = refl
no_bool f a (boolean b) h = absurd (cc h)
no_bool f a (character c) h = refl
no_bool f a (pair l r) h = refl
no_bool f a (seq ts) h = refl
no_bool f a (tagged k t) h = refl

pub no_char : (f : Binary) (a : ℕ) (t : ValueTree) → None ≡ as_char t → binary f (character a) t ≡ undefined
no_char f a (int m) h = refl
no_char f a (boolean b) h = refl
no_char f a (character c) h = absurd (cc h)
no_char f a (pair l r) h = refl
no_char f a (seq ts) h = refl
no_char f a (tagged k t) h = refl
